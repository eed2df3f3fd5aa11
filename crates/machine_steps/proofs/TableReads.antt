-- Which step of a reader comes next by its point, and how it goes on behind one that finds a call or bytes.
use Rattle.std.proofs.Common.{◌≡◌, refl, ℕ, ◌+◌, ◌≤◌, Bool, true, false, if◌then◌else◌, List, [], length, take, Option, Some, ap, sym, ◌∙◌, subst, arith}
use Rattle.std.proofs.lemmas.List.{length-take}
use Rattle.sock_words.specs.declared.outcome.Outcome.{Outcome}
use Rattle.corr_core.specs.IdSlotWord.{parts, code_of}
use Rattle.corr_core.specs.EndedByRangeOrAttempt.{ends_call}
use Rattle.sock_message.specs.Asked.{Asked}
use Rattle.id_points.specs.IdsAndAttemptNumbers.{id_of}
use Rattle.seat_programs.specs.TableSteps as calls
use Rattle.seat_programs.specs.Asides as asides
use Rattle.seat_programs.specs.Asides.{Step, Taking, Nothing, PutCall}
use Rattle.seat_programs.specs.FoundAndChangedAside.{at_last}
use Rattle.seat_programs.specs.Cores.{resolved, still_waiting, next_step, said}
use Rattle.seat_programs.specs.LoopHeads.{HasEnded, Unlocks}
use Rattle.seat_programs.specs.PostPrograms.{end_id, unlocked}
use Rattle.seat_programs.specs.Programs.{Program, Aside, Round}
use Rattle.call_points.specs.AsideCodeSteps.{after_call}
use Rattle.call_points.specs.declared.word_step.WordStep.TheVariants as id_steps
use Rattle.call_points.specs.declared.ending.EndStep.TheVariants as ends
use Rattle.seat_states.specs.declared.point.ReleaseStep.TheVariants as releases
use Rattle.reader_points.specs.declared.point.AnswerStep.TheVariants as answers
use Rattle.reader_points.specs.declared.point.CloseStep.TheVariants as closes
use Rattle.reader_points.specs.declared.point.FailStep.TheVariants as lost
use Rattle.reader_points.specs.declared.point.ReadPoint.{ReadPoint}
use Rattle.reader_points.specs.declared.point.ReadPoint.TheVariants as points
use Rattle.reader_points.specs.ReaderPoints.{Context, point_program, error_in, ended_call, room_at, GoesByWord, TakesBytes, TakesCall}
use Rattle.reader_points.specs.ReaderCodeSteps.{after_taking, taken_behind}
use Rattle.reader_seats.specs.ReaderGoesOn.{GoesOn}
use Rattle.reader_seats.specs.ReaderState.{ReaderData, around, reader_program}
use Rattle.seat_states.specs.ProgramStepsOfMachine.{First, OfTable, OfAside, first_of, first_in}
use Rattle.machine_model.proofs.FirstSteps.{IsBare, bare_first, step_is}
use Rattle.machine_steps.proofs.TableAsides.{FindsWord}
use Rattle.seat_programs.specs.LoopRounds.{first_step}
use Rattle.sock_words.specs.PackedWords.{id_slot}

-- ## Which step it is

abbrev AsideFacts : Step → ReadPoint → Type 0
AsideFacts (asides.TakeCall i) p = TakesCall p
AsideFacts (asides.TakeBytes k n) p = TakesBytes p × (n ≡ room_at p)
AsideFacts other p = GoesByWord p

abbrev Facts : Option First → ReadPoint → Type 0
Facts (Some (OfTable call)) p = GoesByWord p
Facts (Some (OfAside step)) p = AsideFacts step p
Facts other p = Unit {0}

judge_facts : (p : ReadPoint) (ends : Bool) (x y : Program) → Facts (first_of x) p → Facts (first_of y) p → Facts (first_of (if ends then x else y)) p
judge_facts p true x y f g = f
judge_facts p false x y f g = g

facts : (a : Context) (p : ReadPoint) → Facts (first_in (point_program a p)) p
facts a points.Rest = tt
facts a (points.Open link o) = tt
facts a (points.Take r) = (tt, refl)
facts a (points.Lock r l id_steps.Read) = tt
facts a (points.Lock r l (id_steps.Exchange from)) = tt
facts a (points.Answer b id answers.Take) = tt
facts a (points.Answer b id (answers.End o ends.End)) = tt
facts a (points.Answer b id (answers.End o ends.Free)) = tt
facts a (points.Close c closes.AddRef) = tt
facts a (points.Close c closes.SetOdd) = tt
facts a (points.Close c closes.StoreCode) = tt
facts a (points.Close c closes.ReleaseFirst) = tt
facts a (points.Close c (closes.Release releases.SubRef)) = tt
facts a (points.Close c (closes.Release (releases.Recycle from))) = tt
facts a (points.Close c (closes.Release (releases.LoadLink w))) = tt
facts a (points.Close c (closes.Release (releases.TakeLink w k))) = tt
facts a (points.Close c (closes.Release (releases.FinishLink w k))) = tt
facts a (points.Close c (closes.Release (releases.PutLink w k))) = tt
facts a (points.Close c (closes.Release releases.FreeSlot)) = tt
facts a (points.Load c o) = tt
facts a (points.Post l id_steps.Read) = tt
facts a (points.Post l (id_steps.Exchange from)) = tt
facts a (points.Fail l (lost.Take word)) = tt
facts a (points.Fail l (lost.Judge word)) = judge_facts (points.Fail l (lost.Judge word)) (ends_call (parts word.0) (error_in l)) (end_id (id_slot (id_of l.id)) (ended_call a l (HasEnded a.asked.operation (code_of (error_in l))))) (Aside (PutCall (id_slot (id_of l.id)) a.asked) (λ _. Round (Unlocks (id_slot (id_of l.id)) word.0 true) (unlocked (record { id = id_of l.id; attempt = (parts word.0).attempt + 1 }) (ended_call a l)))) tt tt
facts a (points.Fail l (lost.Free o)) = tt
facts a (points.Discard link total) = (tt, refl)

by_word : (step : Step) (p : ReadPoint) → FindsWord step → AsideFacts step p → GoesByWord p
by_word (asides.TakeCall i) p h f = absurd h
by_word (asides.TakeBytes k room) p h f = absurd h
by_word _ p h f = f

module _ (a : Context) (p : ReadPoint) where
  facts_at : (first : First) → first_in (point_program a p) ≡ Some first → Facts (Some first) p
  facts_at first e = subst (λ (o : Option First). Facts o p) e (facts a p)

  pub reads_by_call : (call : calls.TableStep) → first_in (point_program a p) ≡ Some (OfTable call) → GoesByWord p
  reads_by_call call e = facts_at (OfTable call) e

  pub reads_by_word : (step : Step) → first_in (point_program a p) ≡ Some (OfAside step) → FindsWord step → GoesByWord p
  reads_by_word step e h = by_word step p h (facts_at (OfAside step) e)

  pub reads_call : (i : ℕ) → first_in (point_program a p) ≡ Some (OfAside (asides.TakeCall i)) → TakesCall p
  reads_call i e = facts_at (OfAside (asides.TakeCall i)) e

  pub reads_bytes : (k n : ℕ) → first_in (point_program a p) ≡ Some (OfAside (asides.TakeBytes k n)) → TakesBytes p × (n ≡ room_at p)
  reads_bytes k n e = facts_at (OfAside (asides.TakeBytes k n)) e

pub few_room : (p : ReadPoint) → room_at p ≤ 4096
few_room (points.Take r) = omega arith
few_room (points.Discard link total) = omega arith
few_room _ = omega arith

-- so the room is filled as far as it asks for
pub fills : (a : Context) (p : ReadPoint) (k n : ℕ) (room : List ℕ) → first_in (point_program a p) ≡ Some (OfAside (asides.TakeBytes k n)) → length room ≡ 4096 → length (take n room) ≡ n
fills a p k n room first whole = let few = few_room p in let is = (reads_bytes a p k n first).1 in let long = length-take n room in omega (arith, few, is, long, whole)

-- ## Behind a call that was taken, and behind a take

pub bare_call : (a : Context) (p : ReadPoint) → TakesCall p → IsBare (point_program a p)
bare_call a (points.Answer b id answers.Take) takes = tt
bare_call a (points.Fail l (lost.Take word)) takes = tt
bare_call a _ takes = absurd takes

pub record ReadsOnWith (program : Program) (i : ℕ) (asked : Asked) : Type 0 where
  pub next : Asked → Program
  pub is : first_step program ≡ Aside (asides.TakeCall i) next
  pub behind : after_call program asked ≡ next asked

pub behind_call : (a : Context) (p : ReadPoint) (i : ℕ) (asked : Asked) → first_in (point_program a p) ≡ Some (OfAside (asides.TakeCall i)) → ReadsOnWith (point_program a p) i asked
behind_call a p i asked e = let x = step_is (point_program a p) (OfAside (asides.TakeCall i)) e in record {
  next = x.0;
  is = x.1;
  behind = ap (λ (y : Program). after_call y asked) (sym (bare_first (point_program a p) (bare_call a p (reads_call a p i e))) ∙ x.1);
}

abbrev IsRound : Program → Type 0
IsRound (Round head next) = Unit {0}
IsRound other = ⊥

round_bytes : (a : Context) (p : ReadPoint) → TakesBytes p → IsRound (point_program a p)
round_bytes a (points.Take r) takes = tt
round_bytes a (points.Discard link total) takes = tt
round_bytes a _ takes = absurd takes

pub record ReadsOnBy (program : Program) (k n : ℕ) : Type 0 where
  pub next : Taking → Program
  pub is : first_step program ≡ Aside (asides.TakeBytes k n) next
  pub behind : (t : Taking) → after_taking program t ≡ next t

taking_first : (program : Program) (k n : ℕ) (next : Taking → Program) → IsRound program → first_step program ≡ Aside (asides.TakeBytes k n) next → (t : Taking) → after_taking program t ≡ next t
taking_first (Round head x) k n next here e t = ap (λ (y : Program). taken_behind y t) e
taking_first _ k n next here e t = absurd here

pub behind_take : (a : Context) (p : ReadPoint) (k n : ℕ) → first_in (point_program a p) ≡ Some (OfAside (asides.TakeBytes k n)) → ReadsOnBy (point_program a p) k n
behind_take a p k n e = let x = step_is (point_program a p) (OfAside (asides.TakeBytes k n)) e in record {
  next = x.0;
  is = x.1;
  behind = taking_first (point_program a p) k n x.0 (round_bytes a p (reads_bytes a p k n e).0) x.1;
}

-- where nothing came it takes again
still_taking : (a : Context) (p : ReadPoint) → TakesBytes p → (next_step (resolved [] (after_taking (point_program a p) Nothing)) ≡ point_program a p) × (still_waiting [] (after_taking (point_program a p) Nothing) ≡ []) × ((os : List (Option Outcome)) → said (resolved [] (after_taking (point_program a p) Nothing)) os ≡ os)
still_taking a (points.Take r) takes = (refl, refl, λ os. refl)
still_taking a (points.Discard link total) takes = (refl, refl, λ os. refl)
still_taking a _ takes = absurd takes

pub takes_again : (calls : List ℕ) (reader : ReaderData) (ending : Bool) (os : List (Option Outcome)) → TakesBytes reader.point → ending ≡ false → GoesOn calls (after_taking (reader_program calls reader) (at_last ending Nothing)) reader os os
takes_again calls reader ending os takes off =
    let s = still_taking (around calls reader) reader.point takes in
    subst (λ (b : Bool). GoesOn calls (after_taking (reader_program calls reader) (at_last b Nothing)) reader os os) (sym off) (record { program = sym s.0; told = sym (s.2 os); waiting = s.1 })
