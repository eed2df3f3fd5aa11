-- The outcome of a call whose range a seat ended, once it is said, keeps what the tasks and outcomes tell.
use Rattle.std.proofs.Common.{◌≡◌, ◌≢◌, ℕ, ◌⊎◌, inl, inr, ⊎_elim, List, [], ◌∷◌, get_or, set, Option, Some, refl, sym, ap, ◌∙◌, subst, arith}
use mathlib.Core.Option.{some-injective}
use mathlib.Core.Logic.{dite}
use native.Mathlib.Decide.{ℕ_discrete}
use lib.ListN.{get_elem?}
use Rattle.atomic_table.proofs.Lists.{at_set}
use Rattle.sock_words.specs.declared.plain.Plan.{Plan}
use Rattle.sock_words.specs.declared.outcome.Outcome.{Outcome}
use Rattle.corr_core.specs.declared.marks.Plan.{Plan as IdPlan}
use Rattle.seat_programs.specs.declared.task.Op.TheVariants as ops
use Rattle.seat_programs.specs.declared.task.Task.{Task}
use Rattle.story_steps.specs.call_stories.specs.Scenes.{Birth, Saying, Scene, Said, IsTaskOf, WhyEnded}
use Rattle.story_steps.specs.call_stories.specs.Says.{Mark, with_owed}
use Rattle.story_steps.specs.call_stories.specs.CallStories.{At, HasPassed, IsCurrent, BirthsLaw, undo, ahead, IsUntold, IsBegunBy, IsOwed, AreQuiet, TasksLaw}
use Rattle.story_steps.proofs.BirthTicks.{in_all, two_of}
use Rattle.story_steps.proofs.NumberedTasks.{AllDistinct, AreNumbered, one_task, listed_or}
use Rattle.story_ticks.proofs.SayingKeepsStory.{got_other, in_ahead, put_beside, is_done, is_todo, distinct_at, at_either, still_at, quiet_more, said_more, outcomes_more, once_more}
use Rattle.story_steps.specs.call_stories.specs.Below.outcome_stories.specs.OperationStories.{In}

module _ (p : Plan) (q : IdPlan) (clients : List (List Task)) (gives : ℕ → List ℕ) (numbered : AreNumbered p q clients gives) (w : Scene) (births : BirthsLaw p q clients gives w) (os : List (Option Outcome)) (ss : List Saying) (ms : List Mark) (law : TasksLaw p q clients gives w os ss ms) (j : ℕ) (m : Mark) (at : At ms j m)
    (b : Birth) (owes : m.owes ≡ b ∷ []) (x : Outcome) (said_x : Said w b.asked.operation x) (why : WhyEnded p q clients gives w b x) where
  abbrev o : ℕ
  o = b.asked.operation

  born : In b w.births × HasPassed w b
  born = law.owed j m b at owes

  pub untold_call : IsUntold p q clients gives os b.asked.operation
  untold_call = law.untold b born.0 (inr (j, m, at, owes))

  same_mark : (k l : ℕ) (y n : Mark) → At ms k y → At ms l n → k ≡ l → y ≡ n
  same_mark k l y n a c same = some-injective y n (sym a ∙ (ap (get_elem? ms) same ∙ c))

  -- no task that is to be done is that call
  other_task : (l : ℕ) (n : Mark) (u : Task) → At ms l n → In u (ahead p q clients gives n.makes n.todo) → b.asked.operation ≢ u.number
  other_task l n u there here same = let x = law.begun b born.0 in let v = x.2 in
      let todo = in_ahead p q clients gives n.makes n.todo u here in
      let mine = is_todo p q clients gives numbered w births os ss ms law j m at l n u there todo in ⊎_elim
      (λ done. let c = numbered.apart x.0 l x.2 u (is_done p q clients gives numbered w births os ss ms law j m at x.0 x.1 x.2 x.3 done) mine (x.4.1 ∙ same) in
      (distinct_at p q clients gives numbered w births os ss ms law j m at l n there).1 x.2 u (subst (λ (y : Mark). In x.2 y.done) (same_mark x.0 l x.1 n x.3 there c) done) todo (x.4.1 ∙ same))
      (λ pending. let c = numbered.apart x.0 l x.2 u (is_todo p q clients gives numbered w births os ss ms law j m at x.0 x.1 x.2 x.3 (subst (In x.2) (sym pending.1) (inl refl))) mine (x.4.1 ∙ same) in
      let is = same_mark x.0 l x.1 n x.3 there c in
      let list : n.todo ≡ x.2 ∷ pending.0 = ap (λ (y : Mark). y.todo) (sym is) ∙ pending.1 in
      let makes : n.makes ≡ b ∷ [] = ap (λ (y : Mark). y.makes) (sym is) ∙ pending.2 in
      let later : In u pending.0 = subst (λ ts. In u (ahead p q clients gives (b ∷ []) ts)) list (subst (λ bs. In u (ahead p q clients gives bs n.todo)) makes here) in
      in_all (λ (y : Task). x.2.number ≢ y.number) pending.0 (subst AllDistinct list (distinct_at p q clients gives numbered w births os ss ms law j m at l n there).0).0 u later (x.4.1 ∙ same)) x.4.2

  -- no message that was to be sent is that call
  other_sent : (l : ℕ) (n : Mark) (u : Task) (k : ℕ) (bytes : List ℕ) → At ms l n → In u n.done → u.op ≡ ops.Send k bytes → b.asked.operation ≢ u.number
  other_sent l n u k bytes there here sent same = let x = law.begun b born.0 in let v = x.2 in
      let mine = is_done p q clients gives numbered w births os ss ms law j m at l n u there here in
      let list : List Task = get_or clients l [] in
      let has : (c : ℕ) (t : Task) → IsTaskOf p q clients gives c t → In t (get_or clients c []) = λ c t is. subst (In t) (sym (listed_or clients c is.0 is.1)) is.2 in
      let theirs : IsTaskOf p q clients gives x.0 v = ⊎_elim (λ done. is_done p q clients gives numbered w births os ss ms law j m at x.0 x.1 v x.3 done) (λ pending. is_todo p q clients gives numbered w births os ss ms law j m at x.0 x.1 v x.3 (subst (In v) (sym pending.1) (inl refl))) x.4.2 in
      let number : v.number ≡ u.number = x.4.1 ∙ same in
      let c : x.0 ≡ l = numbered.apart x.0 l v u theirs mine number in
      let one : v ≡ u = one_task (get_or clients l []) (numbered.distinct l) v u (has l v (subst (λ i. IsTaskOf p q clients gives i v) c theirs)) (has l u mine) number in
      let z : ops.Call b.asked ≡ ops.Send k bytes = sym x.4.0 ∙ (ap (λ (t : Task). t.op) one ∙ sent) in absurd cc

  before_at : (k : ℕ) (n : Mark) (c : Birth) → At (set ms j (with_owed [] m)) k n → n.owes ≡ c ∷ [] → (k ≢ j) × At ms k n
  before_at k n c e is = ⊎_elim (λ y. absurd (let z : [] ≡ c ∷ [] = ap (λ (z : Mark). z.owes) y.1 ∙ is in cc)) (λ y. (y.0, y.1)) (at_set ms j k (with_owed [] m) n e)

  -- of no other range that has not ended, or is owed its outcome, this was said
  other_range : (c : Birth) → In c w.births → IsCurrent w c ⊎ IsOwed p q clients gives (set ms j (with_owed [] m)) c → b.asked.operation ≢ c.asked.operation
  other_range c there unended same = ⊎_elim
      (λ is. ⊎_elim
      (λ now. let z = subst (λ y. IsCurrent w y) is now in let one = z.0 in let two = (births.born b born.0).1 in let over = born.1 in omega (arith, one, two, over))
      (λ owed. let y = before_at owed.0 owed.1 c owed.2 owed.3 in y.0 (law.owed_once owed.0 j owed.1 m b y.1 at (owed.3 ∙ ap (λ z. z ∷ []) is) owes)) unended)
      (λ apart. ⊎_elim (λ a. a.1 (sym same)) (λ a. a.1 same) apart) (two_of w.births births.apart c b there born.0)

  still : (l : ℕ) (n : Mark) → At ms l n → AreQuiet p q clients gives w (set os b.asked.operation (Some x)) n.client n.done
  still l n there = quiet_more p q clients gives numbered w births os ss ms law j m at (set os b.asked.operation (Some x)) n.client n.done (λ u k bytes here op. got_other os b.asked.operation u.number (Some x) (other_sent l n u k bytes there here op)) (law.quiet l n there)

  pub say_owed : TasksLaw p q clients gives w (set os b.asked.operation (Some x)) ((record { number = b.asked.operation; outcome = x }) ∷ ss) (set ms j (with_owed [] m))
  say_owed = record {
    once = once_more p q clients gives numbered w births os ss ms law j m at b.asked.operation x untold_call;
    client = at_either p q clients gives numbered w births os ss ms law j m at (λ l n. n.client ≡ l) (with_owed [] m) (law.client j m at) (λ l n ne there. law.client l n there);
    placed = at_either p q clients gives numbered w births os ss ms law j m at (λ l n. undo p q clients gives n.done n.todo ≡ get_or clients l []) (with_owed [] m) (law.placed j m at) (λ l n ne there. law.placed l n there);
    told = at_either p q clients gives numbered w births os ss ms law j m at (λ l n. Rattle.story_steps.specs.call_stories.specs.Scenes.AreTold p q clients gives w n.client n.done) (with_owed [] m) (law.told j m at) (λ l n ne there. law.told l n there);
    quiet = at_either p q clients gives numbered w births os ss ms law j m at (λ l n. AreQuiet p q clients gives w (set os b.asked.operation (Some x)) n.client n.done) (with_owed [] m) (still j m at) (λ l n ne there. still l n there);
    begun = λ c there. let y = law.begun c there in let z = still_at p q clients gives numbered w births os ss ms law j m at (with_owed [] m) (λ n. IsBegunBy p q clients gives n c y.2) (λ z. z) y.0 y.1 y.3 y.4 in (y.0, z.0, y.2, z.1, z.2);
    made = λ k y d e f. at_either p q clients gives numbered w births os ss ms law j m at (λ l n. (c : Birth) → n.makes ≡ c ∷ [] → In c w.births) (with_owed [] m) (λ c is. law.made j m c at is) (λ l n ne there c is. law.made l n c there is) k y e d f;
    called = λ k inside begun. let y = law.called k inside begun in let z = still_at p q clients gives numbered w births os ss ms law j m at (with_owed [] m) (λ n. In y.6 n.done) (λ z. z) y.4 y.5 y.7 y.8 in (y.0, y.1, y.2, y.3, y.4, z.0, y.6, z.1, z.2, y.9, y.10);
    said = said_more p q clients gives numbered w births os ss ms law j m at b.asked.operation x untold_call;
    outcomes = outcomes_more p q clients gives numbered w births os ss ms law j m at b.asked.operation x untold_call;
    fresh = λ l n u there. at_either p q clients gives numbered w births os ss ms law j m at (λ l n. In u (ahead p q clients gives n.makes n.todo) → IsUntold p q clients gives (set os b.asked.operation (Some x)) u.number) (with_owed [] m)
        (λ here. got_other os b.asked.operation u.number (Some x) (other_task j m u at here) ∙ law.fresh j m u at here)
        (λ l n ne there here. got_other os b.asked.operation u.number (Some x) (other_task l n u there here) ∙ law.fresh l n u there here) l n there;
    untold = λ c there unended. got_other os b.asked.operation c.asked.operation (Some x) (other_range c there unended) ∙ law.untold c there (⊎_elim (λ now. inl now) (λ owed. let y = before_at owed.0 owed.1 c owed.2 owed.3 in inr (owed.0, owed.1, y.1, owed.3)) unended);
    ended = λ c there passed. ⊎_elim (λ y. inl y) (λ owed. dite (ℕ_discrete owed.0 j)
        (λ here. let e : b ∷ [] ≡ c ∷ [] = sym owes ∙ (ap (λ (y : Mark). y.owes) (sym (same_mark owed.0 j owed.1 m owed.2 at here)) ∙ owed.3) in let is : b ≡ c = cc in
        inl (subst (λ y. (v : Outcome) × Said w y.asked.operation v × WhyEnded p q clients gives w y v) is (x, said_x, why)))
        (λ ne. inr (owed.0, owed.1, put_beside ms j owed.0 (with_owed [] m) owed.1 (λ e. ne (sym e)) owed.2, owed.3))) (law.ended c there passed);
    owed = λ k y d e f. at_either p q clients gives numbered w births os ss ms law j m at (λ l n. (c : Birth) → n.owes ≡ c ∷ [] → In c w.births × HasPassed w c) (with_owed [] m) (λ c is. absurd (let z : [] ≡ c ∷ [] = is in cc)) (λ l n ne there c is. law.owed l n c there is) k y e d f;
    owed_once = λ k l y n c e f is now. law.owed_once k l y n c (before_at k y c e is).1 (before_at l n c f now).1 is now;
  }
