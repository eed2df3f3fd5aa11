-- A seat that found no socket under a name, as it tried an attempt of a call: no task of the setup gave the name a socket, none of the seat's own tasks so far
-- gave it one or found one, and where the call is the seat's own it had begun.
use Rattle.std.proofs.Common.{◌≡◌, ℕ, zero, suc, ◌⊎◌, inl, inr, ⊎_elim, List, [], ◌∷◌, get_or, slice_get, Some, refl, sym, ap, ◌∙◌, subst}
use Rattle.std.specs.Prelude.{slice_index_or}
use mathlib.Core.Option.{some, some-injective}
use lib.ListN.{get_elem?}
use Rattle.sock_words.specs.declared.plain.Plan.{Plan}
use Rattle.corr_core.specs.declared.marks.Plan.{Plan as IdPlan}
use Rattle.sock_words.specs.declared.outcome.Outcome.TheVariants as outcomes
use Rattle.seat_programs.specs.declared.task.Op.TheVariants as ops
use Rattle.seat_programs.specs.declared.task.Task.{Task}
use Rattle.seat_programs.specs.Asides.{StoreCall}
use Rattle.seat_programs.specs.TableSteps.{TableStep}
use Rattle.seat_programs.specs.Cores.{SeatState}
use Rattle.seat_programs.specs.Programs.{Program, Do, Aside}
use Rattle.dropped_calls.specs.Below.programs_allowed.specs.program_steps.proofs.TickCases.{elem_there}
use Rattle.dropped_calls.specs.Below.call_stories.specs.Scenes.{Scene, Named, IsTaskOf, HasNoneOf, NoneFound, ToldOf, was_said, was_sent, was_begun, AreTold, Later}
use Rattle.dropped_calls.specs.Below.call_stories.specs.Says.{Mark, NoneOfSetup, SaysOn}
use Rattle.dropped_calls.specs.Below.call_stories.specs.CallStories.{At, undo, CallStory}
use Rattle.dropped_calls.specs.Below.story_steps.proofs.CausesOfCallSayings.{told_at, open_named, none_found}
use Rattle.dropped_calls.specs.Below.story_steps.proofs.StoryAtRunEnd.{undo_done}
use Rattle.dropped_calls.specs.Below.call_stories.proofs.LastingCallStories.{own_on}
use Rattle.dropped_calls.specs.Below.story_steps.proofs.NumberedTasks.{AreNumbered, one_task, listed_or}
use Rattle.dropped_calls.specs.Below.story_ticks.proofs.TicksKeepCallStory.{IsSetUp}
use Rattle.dropped_calls.specs.attempted_calls.proofs.AttemptedFacts.{IsOwn, IsStoring}
use Rattle.seat_programs.specs.LoopRounds.{first_step}
use Rattle.dropped_calls.specs.Below.outcome_stories.specs.OperationStories.{In}

-- a place of a list of clients that has a task is one of the list
listed : (cs : List (List Task)) (c : ℕ) (t : Task) → In t (slice_index_or cs c []) → (ts : List Task) × (slice_get cs c ≡ Some ts) × In t ts
listed [] c t there = absurd there
listed (ts ∷ cs) zero t there = (ts, refl, there)
listed (ts ∷ cs) (suc c) t there = listed cs c t there

module _ (p : Plan) (q : IdPlan) (clients : List (List Task)) (gives : ℕ → List ℕ) where
  abbrev IsOf : ℕ → Task → Type 0
  IsOf c t = IsTaskOf p q clients gives c t

  undo_in : (done todo : List Task) (t : Task) → In t done ⊎ In t todo → In t (undo p q clients gives done todo)
  undo_in [] todo t (inl none_) = absurd none_
  undo_in [] todo t (inr there) = there
  undo_in (d ∷ ds) todo t (inl (inl same)) = undo_in ds (d ∷ todo) t (inr (inl same))
  undo_in (d ∷ ds) todo t (inl (inr there)) = undo_in ds (d ∷ todo) t (inl there)
  undo_in (d ∷ ds) todo t (inr there) = undo_in ds (d ∷ todo) t (inr (inr there))

  -- ## What lasts of it

  -- client c had done some of its tasks, among them operation o if it is its own; and none of them, nor of the setup, gave the name a socket or found one
  pub record Missed (w : Scene) (c name o : ℕ) : Type 0 where
    pub done : List Task
    pub todo : List Task
    pub placed : undo p q clients gives done todo ≡ slice_index_or clients c []
    pub none_ : NoneFound p q clients gives w done name
    pub begun : (t : Task) → IsTaskOf p q clients gives c t → t.number ≡ o → In t done

  pub missed_on : (w w' : Scene) → Later p q clients gives w w' → (c name o : ℕ) → Missed w c name o → Missed w' c name o
  missed_on w w' l c name o x = record { done = x.done; todo = x.todo; placed = x.placed; none_ = own_on p q clients gives w w' l c x.done (ops.Send name []) outcomes.Unopened x.none_; begun = x.begun }

  -- ## At the moment when nothing was found

  module _ (numbered : AreNumbered p q clients gives) (w : Scene) (ms : List Mark) (story : CallStory p q clients gives w ms) where
    -- a task that a client has done, or is to do next, is its own
    own_task : (j : ℕ) (m : Mark) → At ms j m → (t : Task) → In t m.done ⊎ In t m.todo → IsOf j t
    own_task j m at t there = listed clients j t (subst (In t) (story.tasks.placed j m at) (undo_in m.done m.todo t there))

    -- two tasks with one number are one, of one client
    same_task : (c d : ℕ) (t u : Task) → IsOf c t → IsOf d u → t.number ≡ u.number → (c ≡ d) × (t ≡ u)
    same_task c d t u a b same = let e = numbered.apart c d t u a b same in
        (e, one_task (get_or clients d []) (numbered.distinct d) t u (subst (In t) (ap (λ k. get_or clients k []) e) (subst (In t) (sym (listed_or clients c a.0 a.1)) a.2)) (subst (In u) (sym (listed_or clients d b.0 b.1)) b.2) same)

    same_mark : (j k : ℕ) (m n : Mark) → At ms j m → At ms k n → j ≡ k → m ≡ n
    same_mark j k m n a b e = some-injective m n (sym a ∙ (ap (get_elem? ms) e ∙ b))

    -- none of the setup's tasks gave the name a socket
    none_of_setup : IsSetUp w.core → (m : Mark) → At ms 0 m → (n : ℕ) → (Named p q clients gives w n → ⊥) → NoneOfSetup p q clients gives w n
    none_of_setup over m at n unnamed t is =
        let s = elem_there ms w.core.seats 0 m (sym story.each) at in
        let idle = subst (SaysOn p q clients gives w m) (over s.0 s.1) (story.seats 0 s.0 m s.1 at) in
        let placed = story.tasks.placed 0 m at ∙ listed_or clients 0 is.0 is.1 in
        let there : In t m.done = ⊎_elim (λ x. x) (λ x. absurd (subst (In t) idle.1 x)) (undo_done p q clients gives m.done m.todo t (subst (In t) (sym placed) is.2)) in
        let x = told_at p q clients gives w 0 m.done t (subst (λ c. AreTold p q clients gives w c m.done) (story.tasks.client 0 m at) (story.tasks.told 0 m at)) there in
        λ k op. by_told x.0 x.1 k op
      where
        by_told : (before : List Task) → ToldOf p q clients gives w 0 before t → HasNoneOf p q clients gives w n t
        by_told before (was_said y s why just) k op = (y, s, (λ opened. unnamed (open_named p q clients gives w 0 before n k y (subst (λ o. Rattle.dropped_calls.specs.Below.call_stories.specs.Scenes.WhyOwn p q clients gives w 0 before o y) op why) opened)))
        by_told before (was_sent a bytes sent named) k op = absurd (let z : ops.Send a bytes ≡ ops.Open n k = sym sent ∙ op in cc)
        by_told before (was_begun id asked call own born begun named) k op = absurd (let z : ops.Call asked ≡ ops.Open n k = sym call ∙ op in cc)

    -- seat j, which goes on with a step on the sockets, found no socket under the name; and operation o has an id
    module _ (over : IsSetUp w.core) (first : Mark) (at_first : At ms 0 first) (j : ℕ) (m : Mark) (at : At ms j m) (seat : SeatState) (at_seat : get_elem? w.core.seats j ≡ some seat) (call : TableStep) (next : ℕ → Program) (is : first_step seat.program ≡ Do call next)
        (name o id : ℕ) (unnamed : Named p q clients gives w name → ⊥) (own : IsOwn q w.core o id) where
      -- where the call is the seat's own it has begun it
      begun : (t : Task) → IsOf j t → t.number ≡ o → In t m.done
      begun t mine numbered_ = ⊎_elim stored storing own.either
        where
          stored : get_or w.core.calls.words (Rattle.seat_programs.specs.id_rule.specs.LawfulIdTable.call_index q o) 0 ≡ id → In t m.done
          stored e = let c = story.tasks.called o own.inside (λ z. own.some_ (sym e ∙ z)) in
              -- (birth, born, its id, its operation, seat, mark, task, the mark's place, done, its op, its number)
              let theirs = own_task c.4 c.5 c.7 c.6 (inl c.8) in let both = same_task j c.4 t c.6 mine theirs (numbered_ ∙ sym c.10) in
              let one = same_mark c.4 j c.5 m c.7 at (sym both.0) in subst (λ (x : Mark). In t x.done) one (subst (λ x. In x c.5.done) (sym both.1) c.8)

          storing : IsStoring q w.core o id → In t m.done
          storing s = let n = elem_there w.core.seats ms s.seat s.state story.each s.at in
              let may = (subst (SaysOn p q clients gives w n.0) s.is (story.seats s.seat s.state n.0 s.at n.1)).0 in
              -- the call's task is the first that this seat has to do
              let theirs = own_task s.seat n.0 n.1 may.1 (inr (subst (In may.1) (sym may.4) (inl refl))) in
              let both = same_task j s.seat t may.1 mine theirs (numbered_ ∙ (may.7 ∙ sym may.6)) in
              let here : seat ≡ s.state = some-injective seat s.state (sym at_seat ∙ (ap (get_elem? w.core.seats) both.0 ∙ s.at)) in
              absurd (let z : Do call next ≡ Aside (StoreCall o id) s.next = sym is ∙ (ap (λ (x : SeatState). first_step x.program) here ∙ ap first_step s.is) in cc)

      pub missed_here : Missed w j name o
      missed_here = record {
        done = m.done;
        todo = m.todo;
        placed = story.tasks.placed j m at;
        none_ = none_found p q clients gives w m name unnamed (none_of_setup over first at_first name unnamed) (story.tasks.told j m at);
        begun = begun;
      }
