-- What the next step of a point tells of the point besides, and what the rule of the ids says of it.
use Rattle.std.proofs.Common.{◌≡◌, refl, ℕ, ◌+◌, ◌<◌, ◌≤◌, Bool, true, false, if◌then◌else◌, Option, Some, subst, arith}
use Rattle.std.proofs.Props.{props}
use Rattle.std.proofs.Math.Logic.{∥∥₁_elim}
use Rattle.sock_words.specs.declared.plain.Plan.{Plan}
use Rattle.corr_core.specs.declared.marks.Plan.{Plan as IdPlan}
use Rattle.corr_core.specs.IdSlotWord.{parts, code_of}
use Rattle.corr_core.specs.EndedByRangeOrAttempt.{ends_call}
use Rattle.sock_message.specs.Asked.{Asked}
use Rattle.seat_programs.specs.declared.task.Sizes.{Sizes}
use Rattle.seat_programs.specs.TableSteps as calls
use Rattle.seat_programs.specs.Asides as asides
use Rattle.seat_programs.specs.Asides.{PutCall}
use Rattle.seat_programs.specs.LoopHeads.{HasEnded, Unlocks}
use Rattle.seat_programs.specs.PostPrograms.{end_id, unlocked, decided}
use Rattle.seat_programs.specs.Programs.{Program, Aside, Round}
use Rattle.seat_states.specs.program_steps.specs.SoundSeats.{AllowsWord}
use Rattle.id_runs.specs.HeldIdTokens.{IdView}
use Rattle.id_runs.specs.Goes.{FitsSock, IsLocked, IsTaken, IdGoesOn}
use Rattle.id_points.specs.IdsAndAttemptNumbers.{id_of}
use Rattle.call_points.specs.declared.deciding.DecideStep.TheVariants as decides
use Rattle.call_points.specs.declared.word_step.WordStep.TheVariants as id_steps
use Rattle.seat_states.specs.declared.point.OpenStep.TheVariants as opens
use Rattle.seat_states.specs.declared.point.SeekStep.TheVariants as seeks
use Rattle.seat_states.specs.declared.point.Aim.TheVariants as aims
use Rattle.seat_states.specs.declared.point.FailStep.TheVariants as fails
use Rattle.seat_states.specs.declared.point.ReleaseStep.TheVariants as releases
use Rattle.seat_states.specs.declared.point.SendStep.TheVariants as sends
use Rattle.seat_states.specs.declared.point.WriteStep.TheVariants as writes
use Rattle.seat_states.specs.declared.point.CallStep.TheVariants as begins
use Rattle.seat_states.specs.declared.point.AttemptStep.TheVariants as attempts
use Rattle.seat_states.specs.declared.point.RetryStep.TheVariants as retries
use Rattle.seat_states.specs.declared.point.JoinStep.TheVariants as joins
use Rattle.seat_states.specs.declared.point.Sending.{Sending}
use Rattle.seat_states.specs.declared.point.Author.{Author}
use Rattle.seat_states.specs.declared.point.Author.TheVariants as authors
use Rattle.seat_states.specs.declared.point.Point.{Point}
use Rattle.seat_states.specs.declared.point.Point.TheVariants as points
use Rattle.seat_states.specs.ProgramAtPoint.{Context, point_program, look_program, after_program, IsWithin, IsWithinIds, MayFind, MayFindAside, MayFindId, GoesByWord, TakesCall}
use Rattle.seat_states.specs.ProgramStepsOfMachine.{First, OfTable, OfAside, first_of, first_in}
use Rattle.reader_points.specs.ReaderPoints as reading
use Rattle.reader_points.specs.declared.point.Closing.{Closing}
use Rattle.reader_points.specs.declared.point.ReadPoint.{ReadPoint}
use Rattle.reader_points.specs.declared.point.ReadPoint.TheVariants as reads
use Rattle.reader_points.specs.declared.point.CloseStep.{CloseStep}
use Rattle.reader_points.specs.declared.point.CloseStep.TheVariants as closes
use Rattle.sock_words.specs.PackedWords.{id_slot}

-- ## Of a client

-- a client takes no bytes of a link
abbrev pub NoTake : asides.Step → Type 0
NoTake (asides.TakeBytes k room) = ⊥
NoTake other = Unit {0}

-- how the point of a step aside goes on
abbrev pub GoesAside : asides.Step → Point → Type 0
GoesAside (asides.TakeCall i) p = TakesCall p
GoesAside (asides.TakeBytes k room) p = ⊥
GoesAside other p = GoesByWord p

no_take : (step : asides.Step) (p : Point) → GoesAside step p → NoTake step
no_take (asides.TakeBytes k room) p goes = absurd goes
no_take _ p goes = tt

abbrev Beside : Option First → Point → Type 0
Beside (Some (OfTable call)) p = (found : ℕ) → FitsSock call found → MayFindAside p found
Beside (Some (OfAside step)) p = GoesAside step p × ((sizes : Sizes) → IsWithin sizes p) × ((found : ℕ) → MayFind p found) × ((found : ℕ) → ((o : ℕ) → step ≡ asides.LoadCall o → MayFindId found) → MayFindAside p found)
Beside other p = Unit {0}

look_beside : (a : Context) (s : Sending) (author : Author) → Beside (first_in (look_program a author s.id.0)) (points.Send s sends.Look)
look_beside a s (authors.Send o) = (λ found h. tt)
look_beside a s (authors.Attempt t) = (λ found h. tt)

beside_facts : (a : Context) (p : Point) → Beside (first_in (point_program a p)) p
beside_facts a points.Rest = tt
beside_facts a (points.Open g (opens.Claim i)) = (λ found h. tt)
beside_facts a (points.Open g _) = (λ found h. tt)
beside_facts a (points.Seek aim (seeks.AddRef id)) = (λ found h. tt)
beside_facts a (points.Seek (aims.Hold o n) seeks.Load) = (λ found h. tt)
beside_facts a (points.Seek _ seeks.Load) = (λ found h. tt)
beside_facts a (points.Fail f fails.SetOdd) = (λ found h. tt)
beside_facts a (points.Fail f _) = (λ found h. tt)
beside_facts a (points.Release i t releases.SubRef) = (λ found h. tt)
beside_facts a (points.Release i t _) = (λ found h. tt)
beside_facts a (points.Send s sends.Look) = look_beside a s s.author
beside_facts a (points.Send s (sends.TakeHome q own k)) = tt
beside_facts a (points.Send s (sends.TakeMessage q own k n)) = tt
beside_facts a (points.Send s _) = (λ found h. tt)
beside_facts a (points.Write w (writes.LoadCode m)) = (λ found h. h)
beside_facts a (points.Write w (writes.Put m asked)) = tt
beside_facts a (points.Write w (writes.Ask m)) = tt
beside_facts a (points.Write w (writes.TakeMessage next)) = tt
beside_facts a (points.Write w writes.PutHome) = tt
beside_facts a (points.Write w (writes.TakeHome found)) = tt
beside_facts a (points.Write w (writes.TakeFirst top at)) = tt
beside_facts a (points.Write w _) = (λ found h. tt)
beside_facts a (points.Call begins.LoadName) = (λ found h. tt)
beside_facts a (points.Call _) = (tt, (λ sizes. tt), (λ found. tt), (λ found h. tt))
beside_facts a (points.Attempt t socket attempts.AddRef) = (λ found h. tt)
beside_facts a (points.Attempt t socket attempts.FindLink) = (λ found h. h)
beside_facts a (points.Attempt t socket (attempts.StoreAt k)) = (tt, (λ sizes. tt), (λ found. tt), (λ found h. tt))
beside_facts a (points.Post c after id_steps.Read) = (tt, (λ sizes. tt), (λ found. tt), (λ found h. tt))
beside_facts a (points.Post c after _) = (tt, (λ sizes. tt), (λ found. tt), (λ found h. tt))
beside_facts a (points.Decide c after (decides.Judge w)) = elim (ends_call (parts w.0) c.error.0) as (λ (ends : Bool). Beside (first_of (if ends then end_id (id_slot (id_of c.id)) (decided (id_of c.id) (after_program a after) (HasEnded a.asked.operation (code_of c.error.0))) else Aside (PutCall (id_slot (id_of c.id)) a.asked) (λ _. Round (Unlocks (id_slot (id_of c.id)) w.0 true) (unlocked (record { id = id_of c.id; attempt = (parts w.0).attempt + 1 }) (decided (id_of c.id) (after_program a after)))))) (points.Decide c after (decides.Judge w))) [
  | true ↦ (tt, (λ sizes. tt), (λ found. tt), (λ found h. tt))
  | false ↦ (tt, (λ sizes. tt), (λ found. tt), (λ found h. tt))
]
beside_facts a (points.Decide c after _) = (tt, (λ sizes. tt), (λ found. tt), (λ found h. tt))
beside_facts a (points.Retry r retries.LoadName) = (λ found h. tt)
beside_facts a (points.Retry r (retries.Lock id_steps.Read)) = (tt, (λ sizes. tt), (λ found. tt), (λ found h. tt))
beside_facts a (points.Retry r _) = (tt, (λ sizes. tt), (λ found. tt), (λ found h. tt))
beside_facts a (points.Expire o t) = (tt, (λ sizes. tt), (λ found. tt), (λ found h. h t refl))
beside_facts a (points.Join o (joins.LoadCall t)) = (tt, (λ sizes. tt), (λ found. tt), (λ found h. h t refl))
beside_facts a (points.Join o (joins.Wait id)) = (tt, (λ sizes. tt), (λ found. tt), (λ found h. tt))

module _ (a : Context) (p : Point) where
  beside_at : (first : First) → first_in (point_program a p) ≡ Some first → Beside (Some first) p
  beside_at first e = subst (λ (o : Option First). Beside o p) e (beside_facts a p)

  -- what a step on a word finds is as the ids need it
  pub finds_beside : (call : calls.TableStep) (found : ℕ) → first_in (point_program a p) ≡ Some (OfTable call) → FitsSock call found → MayFindAside p found
  finds_beside call found e fits = beside_at (OfTable call) e found fits

  -- and of a step aside
  pub takes_none : (step : asides.Step) → first_in (point_program a p) ≡ Some (OfAside step) → NoTake step
  takes_none step e = no_take step p (beside_at (OfAside step) e).0

  pub goes_aside : (step : asides.Step) → first_in (point_program a p) ≡ Some (OfAside step) → GoesAside step p
  goes_aside step e = (beside_at (OfAside step) e).0

  pub within_aside : (step : asides.Step) (sizes : Sizes) → first_in (point_program a p) ≡ Some (OfAside step) → IsWithin sizes p
  within_aside step sizes e = (beside_at (OfAside step) e).1 sizes

  pub finds_aside : (step : asides.Step) (found : ℕ) → first_in (point_program a p) ≡ Some (OfAside step) → MayFind p found
  finds_aside step found e = (beside_at (OfAside step) e).2 found

  pub finds_call : (step : asides.Step) (found : ℕ) → first_in (point_program a p) ≡ Some (OfAside step) → ((o : ℕ) → step ≡ asides.LoadCall o → MayFindId found) → MayFindAside p found
  finds_call step found e called = (beside_at (OfAside step) e).3 found called

-- a locked id has an attempt below 7
locked_below : (i more word : ℕ) (u : IdView) → IsLocked i more word u → (parts word).attempt < 7
locked_below i more word u l = let a = l.word_is.attempt_is in let r = l.word_is.range_is in let room = l.room in omega (arith, a, r, room)

taken_below : (i : ℕ) (asked : Asked) (word : ℕ) (u : IdView) → IsTaken i asked word u → (parts word).attempt < 7
taken_below i asked word u l = let a = l.word_is.attempt_is in let r = l.word_is.range_is in let room = l.room in omega (arith, a, r, room)

-- what the rule of the ids says of a point
module _ (p : Plan) (q : IdPlan) (few : q.slots ≤ 4096) where
  abbrev Goes : Program → Type 0
  Goes program = ∥ ((u : IdView) × IdGoesOn p q u program) ∥₁

  pub within_ids : (a : Context) (x : Point) → a.sizes.ids ≡ q.slots → Goes (point_program a x) → IsWithinIds a.sizes x
  within_ids a (points.Call begins.LoadName) same goes = (omega (arith, few, same), tt)
  within_ids a (points.Call (begins.ClaimId i socket)) same goes = (omega (arith, few, same), ∥∥₁_elim goes (hlevel props) (λ g. let h = g.1.0 in omega (arith, h, same)))
  within_ids a (points.Call (begins.PutCall i socket)) same goes = (omega (arith, few, same), tt)
  within_ids a (points.Call (begins.MakeId i socket)) same goes = (omega (arith, few, same), tt)
  within_ids a (points.Call (begins.StoreCall id socket)) same goes = (omega (arith, few, same), tt)
  within_ids a (points.Decide c after (decides.Take w)) same goes = tt
  within_ids a (points.Decide c after (decides.Judge w)) same goes = ∥∥₁_elim goes (hlevel props) (λ g. taken_below _ _ w.0 g.0 g.1.0.1)
  within_ids a (points.Decide c after (decides.Free o)) same goes = tt
  within_ids a (points.Decide c after (decides.Unlock from advance n)) same goes = λ e. ∥∥₁_elim goes (hlevel props) (λ g. locked_below _ _ from.0 g.0 g.1.0.1)
  within_ids a (points.Retry r (retries.Lock id_steps.Read)) same goes = tt
  within_ids a (points.Retry r (retries.Lock (id_steps.Exchange from))) same goes = ∥∥₁_elim goes (hlevel props) (λ g. g.1.0.2)
  within_ids a (points.Retry r (retries.TakeCall w)) same goes = tt
  within_ids a (points.Retry r (retries.PutCall w)) same goes = tt
  within_ids a (points.Retry r (retries.Unlock w advance)) same goes = λ e. ∥∥₁_elim goes (hlevel props) (λ g. locked_below _ _ w.0 g.0 g.1.0.1)
  within_ids a (points.Retry r retries.LoadName) same goes = tt
  within_ids a _ same goes = tt

  pub reads_within : (a : reading.Context) (x : ReadPoint) → Goes (reading.point_program a x) → reading.IsWithin x
  reads_within a (reads.Lock r l id_steps.Read) goes = tt
  reads_within a (reads.Lock r l (id_steps.Exchange from)) goes = ∥∥₁_elim goes (hlevel props) (λ g. g.1.0.2)
  reads_within a _ goes = tt

-- ## Of a reader

abbrev OnWord : Option First → (ℕ → Type 0) → Type 0
OnWord (Some (OfTable call)) Finds = (found : ℕ) → AllowsWord call found → Finds found
OnWord (Some (OfAside step)) Finds = (found : ℕ) → Finds found
OnWord other Finds = Unit {0}

closes_finds : (a : reading.Context) (c : Closing) (at : CloseStep) → OnWord (first_in (reading.close_program a c at)) (reading.MayFindClosing at)
closes_finds a c (closes.Release releases.SubRef) = (λ found h. tt)
closes_finds a c (closes.Release (releases.Recycle from)) = (λ found h. h.2)
closes_finds a c (closes.Release (releases.LoadLink w)) = (λ found h. h)
closes_finds a c (closes.Release (releases.TakeLink w k)) = (λ found h. tt)
closes_finds a c (closes.Release (releases.FinishLink w k)) = (λ found h. tt)
closes_finds a c (closes.Release (releases.PutLink w k)) = (λ found h. tt)
closes_finds a c (closes.Release releases.FreeSlot) = (λ found h. tt)
closes_finds a c _ = (λ found h. tt)

module _ (a : reading.Context) (x : ReadPoint) where
  -- what a reader finds
  pub reads_word : (call : calls.TableStep) (found : ℕ) → first_in (reading.point_program a x) ≡ Some (OfTable call) → AllowsWord call found → reading.MayFind x found
  reads_word call found e allowed = by_point x e
    where
      by_point : (y : ReadPoint) → first_in (reading.point_program a y) ≡ Some (OfTable call) → reading.MayFind y found
      by_point (reads.Close c at) e = (subst (λ (o : Option First). OnWord o (reading.MayFindClosing at)) e (closes_finds a c at)) found allowed
      by_point _ e = tt

  pub reads_aside : (step : asides.Step) (found : ℕ) → first_in (reading.point_program a x) ≡ Some (OfAside step) → reading.MayFind x found
  reads_aside step found e = by_point x e
    where
      by_point : (y : ReadPoint) → first_in (reading.point_program a y) ≡ Some (OfAside step) → reading.MayFind y found
      by_point (reads.Close c at) e = (subst (λ (o : Option First). OnWord o (reading.MayFindClosing at)) e (closes_finds a c at)) found
      by_point _ e = tt
