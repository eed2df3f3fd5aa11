-- An outcome that is said, of the task that is to be done or of a range that has ended, keeps what the tasks and outcomes tell.
use Rattle.std.proofs.Common.{◌≡◌, ◌≢◌, ℕ, zero, suc, ◌⊎◌, inl, inr, ⊎_elim, List, [], ◌∷◌, get_or, set, slice_get, Option, None, Some, refl, sym, ap, ◌∙◌, subst, arith}
use mathlib.Core.Option as core
use mathlib.Core.Option.{some-injective}
use mathlib.Core.Logic.{dite}
use native.Mathlib.Decide.{ℕ_discrete}
use lib.ListN.{get_elem?}
use Rattle.atomic_table.proofs.Lists.{at_set}
use Rattle.sock_words.specs.declared.plain.Plan.{Plan}
use Rattle.sock_words.specs.declared.outcome.Outcome.{Outcome}
use Rattle.corr_core.specs.declared.marks.Plan.{Plan as IdPlan}
use Rattle.seat_programs.specs.declared.task.Op.TheVariants as ops
use Rattle.seat_programs.specs.declared.task.Task.{Task}
use Rattle.story_steps.specs.call_stories.specs.Scenes.{Birth, Saying, Scene, Said, IsTaskOf, WhyOwn, ToldOf}
use Rattle.story_steps.specs.call_stories.specs.Says.{Mark, with_done}
use Rattle.story_steps.specs.call_stories.specs.CallStories.{At, HasPassed, BirthsLaw, undo, ahead, IsUntold, IsBegunBy, IsOwed, AreOnce, QuietOf, AreQuiet, TasksLaw}
use Rattle.story_steps.proofs.BirthTicks.{in_all}
use Rattle.story_steps.proofs.NumberedTasks.{AllDistinct, AreNumbered, distinct_undo}
use Rattle.story_steps.proofs.MarkMoves.{in_todo, in_done, listed}
use Rattle.story_steps.specs.call_stories.specs.Below.outcome_stories.specs.OperationStories.{In}

-- ## Lists

pub got_same : {A : Type 0} (os : List A) (o : ℕ) (v x : A) → slice_get os o ≡ Some x → slice_get (set os o v) o ≡ Some v
got_same [] o v x is = absurd (let z : None ≡ Some x = is in cc)
got_same (y ∷ ys) zero v x is = refl
got_same (y ∷ ys) (suc o) v x is = got_same ys o v x is

pub got_other : {A : Type 0} (os : List A) (o k : ℕ) (v : A) → o ≢ k → slice_get (set os o v) k ≡ slice_get os k
got_other [] o k v ne = refl
got_other (y ∷ ys) zero zero v ne = absurd (ne refl)
got_other (y ∷ ys) zero (suc k) v ne = refl
got_other (y ∷ ys) (suc o) zero v ne = refl
got_other (y ∷ ys) (suc o) (suc k) v ne = got_other ys o k v (λ e. ne (omega (arith, e)))

pub in_ahead : (p : Plan) (q : IdPlan) (clients : List (List Task)) (gives : ℕ → List ℕ) (bs : List Birth) (todo : List Task) (t : Task) → In t (ahead p q clients gives bs todo) → In t todo
in_ahead p q clients gives [] todo t there = there
in_ahead p q clients gives (b ∷ bs) [] t there = there
in_ahead p q clients gives (b ∷ bs) (u ∷ us) t there = inr there

pub put_at : {A : Type 0} (l : List A) (i : ℕ) (a b : A) → get_elem? l i ≡ core.some a → get_elem? (set l i b) i ≡ core.some b
put_at [] i a b is = absurd (mathlib.Core.Option.some-ne-none a (sym is))
put_at (x ∷ xs) zero a b is = refl
put_at (x ∷ xs) (suc i) a b is = put_at xs i a b is

pub put_beside : {A : Type 0} (l : List A) (i j : ℕ) (b c : A) → i ≢ j → get_elem? l j ≡ core.some c → get_elem? (set l i b) j ≡ core.some c
put_beside [] i j b c ne is = is
put_beside (x ∷ xs) zero zero b c ne is = absurd (ne refl)
put_beside (x ∷ xs) zero (suc j) b c ne is = is
put_beside (x ∷ xs) (suc i) zero b c ne is = is
put_beside (x ∷ xs) (suc i) (suc j) b c ne is = put_beside xs i j b c (λ e. ne (omega (arith, e))) is

module _ (p : Plan) (q : IdPlan) (clients : List (List Task)) (gives : ℕ → List ℕ) (numbered : AreNumbered p q clients gives) (w : Scene) (births : BirthsLaw p q clients gives w) (os : List (Option Outcome)) (ss : List Saying) (ms : List Mark) (law : TasksLaw p q clients gives w os ss ms) (j : ℕ) (m : Mark) (at : At ms j m) where
  -- a task of a seat, done or to do, is its client's
  pub is_done : (l : ℕ) (n : Mark) (t : Task) → At ms l n → In t n.done → IsTaskOf p q clients gives l t
  is_done l n t there done = listed p q clients gives clients l t (subst (In t) (law.placed l n there) (in_done p q clients gives n.done n.todo t done))

  pub is_todo : (l : ℕ) (n : Mark) (t : Task) → At ms l n → In t n.todo → IsTaskOf p q clients gives l t
  is_todo l n t there todo = listed p q clients gives clients l t (subst (In t) (law.placed l n there) (in_todo p q clients gives n.done n.todo t todo))

  pub distinct_at : (l : ℕ) (n : Mark) → At ms l n → AllDistinct n.todo × ((d t : Task) → In d n.done → In t n.todo → d.number ≢ t.number)
  distinct_at l n there = distinct_undo p q clients gives n.done n.todo (subst AllDistinct (sym (law.placed l n there)) (numbered.distinct l))

  one_mark : (l : ℕ) (n : Mark) → At ms l n → l ≡ j → n ≡ m
  one_mark l n there same = some-injective n m (sym there ∙ (ap (get_elem? ms) same ∙ at))

  -- the seat whose mark changes, and the others
  pub at_either : (P : ℕ → Mark → Type 0) (m' : Mark) → P j m' → ((l : ℕ) (n : Mark) → l ≢ j → At ms l n → P l n) → (l : ℕ) (n : Mark) → At (set ms j m') l n → P l n
  at_either P m' own other l n there = ⊎_elim (λ x. subst (λ k. P k n) (sym x.0) (subst (P j) x.1 own)) (λ x. other l n x.0 x.1) (at_set ms j l m' n there)

  -- a seat as it is then
  pub still_at : (m' : Mark) (P : Mark → Type 0) → (P m → P m') → (l : ℕ) (n : Mark) → At ms l n → P n → (n' : Mark) × At (set ms j m') l n' × P n'
  still_at m' P own l n there x = dite (ℕ_discrete l j)
      (λ same. (m', subst (λ k. At (set ms j m') k m') (sym same) (put_at ms j m m' at), own (subst P (one_mark l n there same) x)))
      (λ ne. (n, put_beside ms j l m' n (λ e. ne (sym e)) there, x))

  -- ## One outcome more

  pub said_more : (o : ℕ) (x : Outcome) → slice_get os o ≡ Some None → (k : ℕ) (y : Outcome) → In (record { number = k; outcome = y }) ((record { number = o; outcome = x }) ∷ ss) → slice_get (set os o (Some x)) k ≡ Some (Some y)
  said_more o x free k y (inl same) = let number : k ≡ o = ap (λ (s : Saying). s.number) same in let outcome : y ≡ x = ap (λ (s : Saying). s.outcome) same in
      ap (slice_get (set os o (Some x))) number ∙ (got_same os o (Some x) None free ∙ ap (λ z. Some (Some z)) (sym outcome))
  said_more o x free k y (inr there) = got_other os o k (Some x) (λ same. let z : Some (Some y) ≡ Some None = sym (law.said k y there) ∙ (ap (slice_get os) (sym same) ∙ free) in absurd cc) ∙ law.said k y there

  pub outcomes_more : (o : ℕ) (x : Outcome) → slice_get os o ≡ Some None → (k : ℕ) (y : Outcome) → slice_get (set os o (Some x)) k ≡ Some (Some y) → In (record { number = k; outcome = y }) ((record { number = o; outcome = x }) ∷ ss)
  outcomes_more o x free k y is = dite (ℕ_discrete o k)
      (λ same. inl (let z : Some (Some x) ≡ Some (Some y) = sym (got_same os o (Some x) None free) ∙ (ap (slice_get (set os o (Some x))) same ∙ is) in let e : x ≡ y = cc in λ i. record { number = sym same i; outcome = sym e i }))
      (λ ne. inr (law.outcomes k y (sym (got_other os o k (Some x) ne) ∙ is)))

  pub once_more : (o : ℕ) (x : Outcome) → slice_get os o ≡ Some None → AreOnce p q clients gives ((record { number = o; outcome = x }) ∷ ss)
  once_more o x free = ((λ y there. let z : Some (Some y) ≡ Some None = sym (law.said o y there) ∙ free in absurd cc), law.once)

  -- messages without outcomes are without them still
  pub quiet_more : (os' : List (Option Outcome)) (c : ℕ) (ts : List Task) → ((u : Task) (n : ℕ) (bytes : List ℕ) → In u ts → u.op ≡ ops.Send n bytes → slice_get os' u.number ≡ slice_get os u.number) → AreQuiet p q clients gives w os c ts → AreQuiet p q clients gives w os' c ts
  quiet_more os' c [] still all = tt
  quiet_more os' c (u ∷ us) still all = (λ n bytes op. ⊎_elim (λ none_. inl (still u n bytes (inl refl) op ∙ none_)) (λ x. inr x) (all.0 n bytes op), quiet_more os' c us (λ v n bytes there op. still v n bytes (inr there) op) all.1)

  -- ## The task that is to be done

  module _ (t : Task) (ts : List Task) (todo : m.todo ≡ t ∷ ts) (owes : m.owes ≡ []) (makes : m.makes ≡ []) where
    abbrev m' : Mark
    m' = with_done t ts m

    is_here : In t m.todo
    is_here = subst (In t) (sym todo) (inl refl)

    -- nothing was said of it
    pub untold_here : IsUntold p q clients gives os t.number
    untold_here = law.fresh j m t at (subst (λ bs. In t (ahead p q clients gives bs m.todo)) (sym makes) is_here)

    -- no other task has its number
    other_task : (l : ℕ) (n : Mark) (u : Task) → At ms l n → (In u n.done ⊎ (l ≢ j × In u n.todo)) → t.number ≢ u.number
    other_task l n u there (inl done) same = let c = numbered.apart j l t u (is_todo j m t at is_here) (is_done l n u there done) same in
        (distinct_at j m at).1 u t (subst (λ (x : Mark). In u x.done) (one_mark l n there (sym c)) done) is_here (sym same)
    other_task l n u there (inr x) same = x.0 (sym (numbered.apart j l t u (is_todo j m t at is_here) (is_todo l n u there x.1) same))

    other_ahead : (u : Task) → In u ts → t.number ≢ u.number
    other_ahead u there = in_all (λ (x : Task). t.number ≢ x.number) ts (subst AllDistinct todo (distinct_at j m at).0).0 u there

    -- nor has any call that was begun
    pub other_call : (b : Birth) → In b w.births → t.number ≢ b.asked.operation
    other_call b there same = let x = law.begun b there in ⊎_elim
        (λ done. other_task x.0 x.1 x.2 x.3 (inl done) (same ∙ sym x.4.1))
        (λ pending. let c = numbered.apart j x.0 t x.2 (is_todo j m t at is_here) (is_todo x.0 x.1 x.2 x.3 (subst (In x.2) (sym pending.1) (inl refl))) (same ∙ sym x.4.1) in
        let z : b ∷ [] ≡ [] = sym pending.2 ∙ (ap (λ (y : Mark). y.makes) (one_mark x.0 x.1 x.3 (sym c)) ∙ makes) in absurd cc) x.4.2

    -- the marks with one task more that is done
    pub done_law : ToldOf p q clients gives w m.client m.done t → (os' : List (Option Outcome)) (ss' : List Saying) → QuietOf p q clients gives w os' m.client m.done t → ((o : ℕ) (x : Outcome) → In (record { number = o; outcome = x }) ss' → slice_get os' o ≡ Some (Some x)) → ((o : ℕ) (x : Outcome) → slice_get os' o ≡ Some (Some x) → In (record { number = o; outcome = x }) ss')
        → ((o : ℕ) → t.number ≢ o → slice_get os' o ≡ slice_get os o) → AreOnce p q clients gives ss' → TasksLaw p q clients gives w os' ss' (set ms j (with_done t ts m))
    done_law told os' ss' own said outcomes others once = record {
      once = once;
      client = at_either (λ l n. n.client ≡ l) (with_done t ts m) (law.client j m at) (λ l n ne there. law.client l n there);
      placed = at_either (λ l n. undo p q clients gives n.done n.todo ≡ get_or clients l []) (with_done t ts m) (ap (undo p q clients gives m.done) (sym todo) ∙ law.placed j m at) (λ l n ne there. law.placed l n there);
      told = at_either (λ l n. Rattle.story_steps.specs.call_stories.specs.Scenes.AreTold p q clients gives w n.client n.done) (with_done t ts m) (told, law.told j m at) (λ l n ne there. law.told l n there);
      quiet = at_either (λ l n. AreQuiet p q clients gives w os' n.client n.done) (with_done t ts m)
          (own, quiet_more os' m.client m.done (λ u n bytes there op. others u.number (other_task j m u at (inl there))) (law.quiet j m at))
          (λ l n ne there. quiet_more os' n.client n.done (λ u k bytes x op. others u.number (other_task l n u there (inl x))) (law.quiet l n there));
      begun = λ b there. let x = law.begun b there in let y = still_at (with_done t ts m) (λ n. IsBegunBy p q clients gives n b x.2)
          (λ z. (z.0, z.1, ⊎_elim (λ done. inl (inr done)) (λ pending. absurd (let e : b ∷ [] ≡ [] = sym pending.2 ∙ makes in cc)) z.2)) x.0 x.1 x.3 x.4 in (x.0, y.0, x.2, y.1, y.2);
      made = λ k n c there is. at_either (λ l n. (b : Birth) → n.makes ≡ b ∷ [] → In b w.births) (with_done t ts m) (λ b is. law.made j m b at is) (λ l n ne there b is. law.made l n b there is) k n there c is;
      called = λ o inside begun. let x = law.called o inside begun in let y = still_at (with_done t ts m) (λ n. In x.6 n.done) (λ z. inr z) x.4 x.5 x.7 x.8 in (x.0, x.1, x.2, x.3, x.4, y.0, x.6, y.1, y.2, x.9, x.10);
      said = said;
      outcomes = outcomes;
      fresh = λ l n u there. at_either (λ l n. In u (ahead p q clients gives n.makes n.todo) → IsUntold p q clients gives os' u.number) (with_done t ts m)
          (λ x. let y : In u ts = subst (λ bs. In u (ahead p q clients gives bs ts)) makes x in others u.number (other_ahead u y) ∙ law.fresh j m u at (subst (λ bs. In u (ahead p q clients gives bs m.todo)) (sym makes) (subst (In u) (sym todo) (inr y))))
          (λ l n ne there x. others u.number (other_task l n u there (inr (ne, in_ahead p q clients gives n.makes n.todo u x))) ∙ law.fresh l n u there x) l n there;
      untold = λ b there x. others b.asked.operation (other_call b there) ∙ law.untold b there (⊎_elim (λ now. inl now) (λ owed. inr (before b owed)) x);
      ended = λ b there passed. ⊎_elim (λ x. inl x) (λ owed. let y = still_at (with_done t ts m) (λ n. n.owes ≡ b ∷ []) (λ z. z) owed.0 owed.1 owed.2 owed.3 in inr (owed.0, y.0, y.1, y.2)) (law.ended b there passed);
      owed = λ k n c there is. at_either (λ l n. (b : Birth) → n.owes ≡ b ∷ [] → In b w.births × HasPassed w b) (with_done t ts m) (λ b is. law.owed j m b at is) (λ l n ne there b is. law.owed l n b there is) k n there c is;
      owed_once = λ k l x y b e f is now. let u = before_at k x b e is in let v = before_at l y b f now in law.owed_once k l u.0 v.0 b u.1 v.1 u.2 v.2;
    }
      where
        before_at : (k : ℕ) (x : Mark) (b : Birth) → At (set ms j (with_done t ts m)) k x → x.owes ≡ b ∷ [] → (n : Mark) × At ms k n × (n.owes ≡ b ∷ [])
        before_at k x b e is = ⊎_elim (λ y. (m, ap (get_elem? ms) y.0 ∙ at, ap (λ (z : Mark). z.owes) y.1 ∙ is)) (λ y. (x, y.1, is)) (at_set ms j k (with_done t ts m) x e)

        before : (b : Birth) → IsOwed p q clients gives (set ms j (with_done t ts m)) b → IsOwed p q clients gives ms b
        before b owed = let x = before_at owed.0 owed.1 b owed.2 owed.3 in (owed.0, x.0, x.1, x.2)

    pub say_own : ToldOf p q clients gives w m.client m.done t → (x : Outcome) → Said w t.number x → WhyOwn p q clients gives w m.client m.done t.op x → TasksLaw p q clients gives w (set os t.number (Some x)) ((record { number = t.number; outcome = x }) ∷ ss) (set ms j (with_done t ts m))
    say_own told x is why = done_law told (set os t.number (Some x)) ((record { number = t.number; outcome = x }) ∷ ss) (λ n bytes op. inr (x, is, why)) (said_more t.number x untold_here) (outcomes_more t.number x untold_here) (λ o ne. got_other os t.number o (Some x) ne) (once_more t.number x untold_here)

    -- of a message that was accepted nothing is said
    pub sent_own : ToldOf p q clients gives w m.client m.done t → TasksLaw p q clients gives w os ss (set ms j (with_done t ts m))
    sent_own told = done_law told os ss (λ n bytes op. inl untold_here) law.said law.outcomes (λ o ne. refl) law.once
