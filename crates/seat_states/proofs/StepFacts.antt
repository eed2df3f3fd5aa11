-- What the next step of a point tells of the point.
use Rattle.std.proofs.Common.{◌≡◌, refl, ℕ, ◌+◌, ◌<◌, ◌≤◌, Bool, true, false, if◌then◌else◌, List, Option, Some, None, subst}
use Rattle.sock_words.specs.declared.outcome.Outcome.{Outcome}
use Rattle.seat_programs.specs.declared.task.Sizes.{Sizes}
use Rattle.seat_programs.specs.TableSteps as calls
use Rattle.seat_programs.specs.Asides as asides
use Rattle.seat_programs.specs.Cores.{said, next_step}
use Rattle.program_steps.specs.SoundSeats.{AllowsWord}
use Rattle.seat_states.specs.declared.point.OpenStep.TheVariants as opens
use Rattle.seat_states.specs.declared.point.SeekStep.TheVariants as seeks
use Rattle.seat_states.specs.declared.point.Aim.TheVariants as aims
use Rattle.seat_states.specs.declared.point.FailStep.TheVariants as fails
use Rattle.seat_states.specs.declared.point.ReleaseStep.TheVariants as releases
use Rattle.seat_states.specs.declared.point.SendStep.TheVariants as sends
use Rattle.seat_states.specs.declared.point.WriteStep.TheVariants as writes
use Rattle.sock_words.specs.declared.id_word.IdWord.{IdWord}
use Rattle.seat_programs.specs.Programs.{Program, Aside, Round}
use Rattle.corr_core.specs.IdSlotWord.{parts, code_of}
use Rattle.corr_core.specs.EndedByRangeOrAttempt.{ends_call}
use Rattle.id_points.specs.IdsAndAttemptNumbers.{id_of}
use Rattle.seat_programs.specs.Asides.{PutCall}
use Rattle.seat_programs.specs.LoopHeads.{HasEnded, Unlocks}
use Rattle.seat_programs.specs.PostPrograms.{end_id, unlocked, decided}
use Rattle.call_points.specs.declared.deciding.OnCall.{OnCall}
use Rattle.call_points.specs.declared.deciding.DecideStep.TheVariants as decides
use Rattle.call_points.specs.declared.word_step.WordStep.TheVariants as id_steps
use Rattle.seat_states.specs.declared.point.Sending.{Sending}
use Rattle.seat_states.specs.declared.point.Author.{Author}
use Rattle.seat_states.specs.declared.point.Author.TheVariants as authors
use Rattle.seat_states.specs.declared.point.AfterStep.{AfterStep}
use Rattle.seat_states.specs.declared.point.CallStep.TheVariants as begins
use Rattle.seat_states.specs.declared.point.AttemptStep.TheVariants as attempts
use Rattle.seat_states.specs.declared.point.RetryStep.TheVariants as retries
use Rattle.seat_states.specs.declared.point.JoinStep.TheVariants as joins
use Rattle.seat_states.specs.declared.point.Point.{Point}
use Rattle.seat_states.specs.declared.point.Point.TheVariants as points
use Rattle.seat_states.specs.ProgramAtPoint.{Context, point_program, look_program, after_program, link_at, link_left, MayFind, IsWithin, GoesByWord, TakesCall, TakesMessage, TakesLink, PutsHome, PutsPiece, Asks}
use Rattle.seat_states.specs.ProgramStepsOfMachine.{First, OfTable, OfAside, OfMessage, OfLink, OfHome, OfPut, OfReady, first_of, first_in}
use Rattle.sock_words.specs.PackedWords.{id_slot}

-- the link in hand without a right before and behind a step
abbrev pub HandOver : calls.TableStep → Option ℕ → Option ℕ → Type 0
HandOver (calls.OnLink (calls.TakeLink k)) before behind = (before ≡ None) × (behind ≡ Some k)
HandOver (calls.OnLink (calls.FinishLink k)) before behind = (before ≡ Some k) × (behind ≡ Some k)
HandOver (calls.OnLink (calls.PutLink k)) before behind = (before ≡ Some k) × (behind ≡ None)
HandOver other before behind = (before ≡ None) × (behind ≡ None)

-- a slot or request that is tried is one of the table's, and a place word has room for the place
abbrev pub FitsSizes : Sizes → calls.TableStep → Type 0
FitsSizes sizes (calls.OnSlot (calls.ClaimSlot i)) = i < sizes.slots
FitsSizes sizes (calls.OnChain (calls.ClaimRequest id q)) = q < sizes.requests
FitsSizes sizes (calls.OnPlace (calls.StorePlace l k n)) = n < 4294967295
FitsSizes sizes (calls.OnPlace (calls.DropPlace l k n)) = n < 4294967295
FitsSizes sizes other = Unit {0}

abbrev HasNone : Point → Type 0
HasNone p = (link_at p ≡ None) × (link_left p ≡ None)

abbrev AsideFacts : asides.Step → Point → Type 0
AsideFacts (asides.TakeCall i) p = TakesCall p × HasNone p
AsideFacts other p = GoesByWord p × HasNone p

abbrev Facts : Option First → Point → Type 0
Facts None p = Unit {0}
Facts (Some (OfTable call)) p = GoesByWord p × HandOver call (link_at p) (link_left p) × ((found : ℕ) → AllowsWord call found → MayFind p found)
    × ((sizes : Sizes) → sizes.requests ≤ 4096 → FitsSizes sizes call → IsWithin sizes p)
Facts (Some (OfAside step)) p = AsideFacts step p
Facts (Some (OfMessage q)) p = TakesMessage p × HasNone p
Facts (Some (OfLink k)) p = TakesLink p × HasNone p
Facts (Some (OfHome k n)) p = PutsHome p × HasNone p
Facts (Some (OfPut k asked bytes)) p = PutsPiece p × HasNone p
Facts (Some (OfReady k)) p = Asks p × HasNone p

-- the look of a `send` and that of an attempt
look_facts : (a : Context) (s : Sending) (author : Author) → Facts (first_in (look_program a author s.id.0)) (points.Send s sends.Look)
look_facts a s (authors.Send o) = (tt, (refl, refl), (λ found h. tt), (λ sizes few fits. (few, tt)))
look_facts a s (authors.Attempt t) = (tt, (refl, refl), (λ found h. tt), (λ sizes few fits. (few, tt)))

-- a call that is decided on ends, or goes home again
judge_facts : (c : OnCall) (after : AfterStep) (w : IdWord) (ends : Bool) (x y : Program) → Facts (first_of x) (points.Decide c after (decides.Judge w)) → Facts (first_of y) (points.Decide c after (decides.Judge w))
    → Facts (first_of (if ends then x else y)) (points.Decide c after (decides.Judge w))
judge_facts c after w true x y f g = f
judge_facts c after w false x y f g = g

facts : (a : Context) (p : Point) → Facts (first_in (point_program a p)) p
facts a points.Rest = tt
facts a (points.Open g (opens.Claim i)) = (tt, (refl, refl), (λ found h. tt), (λ sizes few fits. fits))
facts a (points.Open g _) = (tt, (refl, refl), (λ found h. tt), (λ sizes few fits. tt))
facts a (points.Seek aim (seeks.AddRef id)) = (tt, (refl, refl), (λ found h. tt), (λ sizes few fits. tt))
facts a (points.Seek (aims.End o) _) = (tt, (refl, refl), (λ found h. tt), (λ sizes few fits. tt))
facts a (points.Seek _ _) = (tt, (refl, refl), (λ found h. tt), (λ sizes few fits. tt))
facts a (points.Fail f fails.SetOdd) = (tt, (refl, refl), (λ found h. tt), (λ sizes few fits. tt))
facts a (points.Fail f _) = (tt, (refl, refl), (λ found h. tt), (λ sizes few fits. tt))
facts a (points.Release i t (releases.Recycle w)) = (tt, (refl, refl), (λ found h. h.2), (λ sizes few fits. tt))
facts a (points.Release i t (releases.LoadLink w)) = (tt, (refl, refl), (λ found h. h), (λ sizes few fits. tt))
facts a (points.Release i t _) = (tt, (refl, refl), (λ found h. tt), (λ sizes few fits. tt))
facts a (points.Send s sends.Look) = look_facts a s s.author
facts a (points.Send s (sends.Claim q)) = (tt, (refl, refl), (λ found h. h), (λ sizes few fits. (few, fits)))
facts a (points.Send s (sends.FindLink q own)) = (tt, (refl, refl), (λ found h. h), (λ sizes few fits. (few, tt)))
facts a (points.Send s (sends.TakeHome q own k)) = (tt, (refl, refl))
facts a (points.Send s (sends.TakeMessage q own k n)) = (tt, (refl, refl))
facts a (points.Send s _) = (tt, (refl, refl), (λ found h. tt), (λ sizes few fits. (few, tt)))
facts a (points.Write w (writes.Put m asked)) = (tt, (refl, refl))
facts a (points.Write w (writes.Ask m)) = (tt, (refl, refl))
facts a (points.Write w (writes.TakeMessage next)) = (tt, (refl, refl))
facts a (points.Write w writes.PutHome) = (tt, (refl, refl))
facts a (points.Write w (writes.TakeHome found)) = (tt, (refl, refl))
facts a (points.Write w (writes.TakeFirst top at)) = (tt, (refl, refl))
facts a (points.Write w (writes.StorePlace m)) = (tt, (refl, refl), (λ found h. tt), (λ sizes few fits. fits))
facts a (points.Write w (writes.DropPlace m n)) = (tt, (refl, refl), (λ found h. tt), (λ sizes few fits. fits))
facts a (points.Write w _) = (tt, (refl, refl), (λ found h. tt), (λ sizes few fits. tt))
facts a (points.Call begins.LoadName) = (tt, (refl, refl), (λ found h. tt), (λ sizes few fits. tt))
facts a (points.Call _) = (tt, (refl, refl))
facts a (points.Attempt t socket (attempts.StoreAt k)) = (tt, (refl, refl))
facts a (points.Attempt t socket _) = (tt, (refl, refl), (λ found h. tt), (λ sizes few fits. tt))
facts a (points.Post c after id_steps.Read) = (tt, (refl, refl))
facts a (points.Post c after _) = (tt, (refl, refl))
facts a (points.Decide c after (decides.Judge w)) = judge_facts c after w (ends_call (parts w.0) c.error.0) (end_id (id_slot (id_of c.id)) (decided (id_of c.id) (after_program a after) (HasEnded a.asked.operation (code_of c.error.0)))) (Aside (PutCall (id_slot (id_of c.id)) a.asked) (λ _. Round (Unlocks (id_slot (id_of c.id)) w.0 true) (unlocked (record { id = id_of c.id; attempt = (parts w.0).attempt + 1 }) (decided (id_of c.id) (after_program a after))))) (tt, (refl, refl)) (tt, (refl, refl))
facts a (points.Decide c after _) = (tt, (refl, refl))
facts a (points.Retry r retries.LoadName) = (tt, (refl, refl), (λ found h. tt), (λ sizes few fits. tt))
facts a (points.Retry r (retries.Lock id_steps.Read)) = (tt, (refl, refl))
facts a (points.Retry r _) = (tt, (refl, refl))
facts a (points.Expire o t) = (tt, (refl, refl))
facts a (points.Join o (joins.Wait id)) = (tt, (refl, refl))
facts a (points.Join o _) = (tt, (refl, refl))

module _ (a : Context) (p : Point) where
  facts_at : (first : First) → first_in (point_program a p) ≡ Some first → Facts (Some first) p
  facts_at first e = subst (λ (o : Option First). Facts o p) e (facts a p)

  -- ## Of a step on a word, or into the home of a message

  pub goes_by_word : (call : calls.TableStep) → first_in (point_program a p) ≡ Some (OfTable call) → GoesByWord p
  goes_by_word call e = (facts_at (OfTable call) e).0

  pub hand_over : (call : calls.TableStep) → first_in (point_program a p) ≡ Some (OfTable call) → HandOver call (link_at p) (link_left p)
  hand_over call e = (facts_at (OfTable call) e).1

  pub may_find : (call : calls.TableStep) (found : ℕ) → first_in (point_program a p) ≡ Some (OfTable call) → AllowsWord call found → MayFind p found
  may_find call found e h = (facts_at (OfTable call) e).2 found h

  pub is_within : (call : calls.TableStep) (sizes : Sizes) → first_in (point_program a p) ≡ Some (OfTable call) → sizes.requests ≤ 4096 → FitsSizes sizes call → IsWithin sizes p
  is_within call sizes e few fits = (facts_at (OfTable call) e).3 sizes few fits

  -- ## Of the others: which one it is, and that no link is in hand without a right

  pub takes_message : (q : ℕ) → first_in (point_program a p) ≡ Some (OfMessage q) → TakesMessage p × HasNone p
  takes_message q e = facts_at (OfMessage q) e

  pub takes_link : (k : ℕ) → first_in (point_program a p) ≡ Some (OfLink k) → TakesLink p × HasNone p
  takes_link k e = facts_at (OfLink k) e

  pub puts_home : (k n : ℕ) → first_in (point_program a p) ≡ Some (OfHome k n) → PutsHome p × HasNone p
  puts_home k n e = facts_at (OfHome k n) e

  pub puts_piece : (k : ℕ) (asked : Bool) (bytes : List ℕ) → first_in (point_program a p) ≡ Some (OfPut k asked bytes) → PutsPiece p × HasNone p
  puts_piece k asked bytes e = facts_at (OfPut k asked bytes) e

  pub asks : (k : ℕ) → first_in (point_program a p) ≡ Some (OfReady k) → Asks p × HasNone p
  asks k e = facts_at (OfReady k) e

-- ## Nothing is said at a point

look_ahead : (a : Context) (author : Author) (id : ℕ) → (next_step (look_program a author id) ≡ look_program a author id) × ((os : List (Option Outcome)) → said (look_program a author id) os ≡ os)
look_ahead a (authors.Send o) id = (refl, λ os. refl)
look_ahead a (authors.Attempt t) id = (refl, λ os. refl)

ahead : (a : Context) (p : Point) → (next_step (point_program a p) ≡ point_program a p) × ((os : List (Option Outcome)) → said (point_program a p) os ≡ os)
ahead a points.Rest = (refl, λ os. refl)
ahead a (points.Open g opens.TakeLink) = (refl, λ os. refl)
ahead a (points.Open g _) = (refl, λ os. refl)
ahead a (points.Seek aim (seeks.AddRef id)) = (refl, λ os. refl)
ahead a (points.Seek (aims.End o) _) = (refl, λ os. refl)
ahead a (points.Seek _ _) = (refl, λ os. refl)
ahead a (points.Fail f fails.SetOdd) = (refl, λ os. refl)
ahead a (points.Fail f _) = (refl, λ os. refl)
ahead a (points.Release i t releases.SubRef) = (refl, λ os. refl)
ahead a (points.Release i t _) = (refl, λ os. refl)
ahead a (points.Send s sends.Look) = look_ahead a s.author s.id.0
ahead a (points.Send s _) = (refl, λ os. refl)
ahead a (points.Write w writes.PutHome) = (refl, λ os. refl)
ahead a (points.Write w _) = (refl, λ os. refl)
ahead a (points.Call begins.LoadName) = (refl, λ os. refl)
ahead a (points.Call _) = (refl, λ os. refl)
ahead a (points.Attempt t socket attempts.AddRef) = (refl, λ os. refl)
ahead a (points.Attempt t socket _) = (refl, λ os. refl)
ahead a (points.Post c after id_steps.Read) = (refl, λ os. refl)
ahead a (points.Post c after _) = (refl, λ os. refl)
ahead a (points.Decide c after (decides.Take w)) = (refl, λ os. refl)
ahead a (points.Decide c after _) = (refl, λ os. refl)
ahead a (points.Retry r (retries.Lock id_steps.Read)) = (refl, λ os. refl)
ahead a (points.Retry r _) = (refl, λ os. refl)
ahead a (points.Expire o t) = (refl, λ os. refl)
ahead a (points.Join o (joins.Wait id)) = (refl, λ os. refl)
ahead a (points.Join o _) = (refl, λ os. refl)

-- it is at its next step
pub at_step : (a : Context) (p : Point) → next_step (point_program a p) ≡ point_program a p
at_step a p = (ahead a p).0

pub says_none : (a : Context) (p : Point) (os : List (Option Outcome)) → said (point_program a p) os ≡ os
says_none a p os = (ahead a p).1 os
