-- What is known of the tasks of a table: each has its own number, and each `open` its own link.
use Rattle.std.proofs.Common.{◌≡◌, ◌≢◌, ℕ, ◌<◌, List, [], ◌∷◌, ⊎_elim, sym, refl, ap, ◌∙◌, subst, arith}
use Rattle.std.specs.Prelude.{Option, Some, slice_get}
use Rattle.std.specs.List.{AllByRecursion}
use mathlib.Core.Logic.{dite}
use native.Mathlib.Decide.{ℕ_discrete}
use Rattle.brpc_model.specs.Order.{EachBefore}
use Rattle.sock_words.specs.declared.plain.Plan.{Plan}
use Rattle.seat_programs.specs.declared.task.Op.{Op}
use Rattle.seat_programs.specs.declared.task.Op.TheVariants as ops
use Rattle.seat_programs.specs.declared.task.Task.{Task}
use Rattle.seat_programs.specs.Explained.{AreTasks, TaskFits, Differ, HaveOwnLinks, IsOpen}
use Rattle.outcome_stories.specs.OperationStories.{In}
use Rattle.outcome_stories.specs.StoryStepCauses.{Asks}
use Rattle.outcome_stories.proofs.Members.{all_in, get_all, get_before, before_or_same}
use Rattle.outcome_ticks.proofs.SeatPartOfStory.{Less}

abbrev pub InOrder : Task → Task → Type 0
InOrder a b = (a.number < b.number) × HaveOwnLinks a.op b.op

abbrev pub Apart : List Task → List Task → Type 0
Apart ts us = AllByRecursion (λ (t : Task). AllByRecursion (Differ t) us) ts

module _ {A : Type 0} (R Q : A → A → Type 0) (f : (a b : A) → R a b → Q a b) where
  all_weaker : (x : A) (ys : List A) → AllByRecursion (R x) ys → AllByRecursion (Q x) ys
  all_weaker x [] h = tt
  all_weaker x (y ∷ ys) h = (f x y h.0, all_weaker x ys h.1)

  pub before_weaker : (xs : List A) → EachBefore R xs → EachBefore Q xs
  before_weaker [] h = tt
  before_weaker (x ∷ xs) h = (all_weaker x xs h.0, before_weaker xs h.1)

pub same_some : {A : Type 0} (o : Option A) (x y : A) → o ≡ Some x → o ≡ Some y → x ≡ y
same_some o x y e f = cc

module _ (p : Plan) (clients : List (List Task)) (are : AreTasks p clients) where
  pub sorted_of : (c : ℕ) (ts : List Task) → slice_get clients c ≡ Some ts → EachBefore Less ts
  sorted_of c ts e = before_weaker InOrder Less (λ a b h. h.0) ts (get_all (EachBefore InOrder) clients c ts are.in_order e)

  pub fits_of : (c : ℕ) (ts : List Task) → slice_get clients c ≡ Some ts → AllByRecursion (TaskFits p) ts
  fits_of c ts e = get_all (AllByRecursion (TaskFits p)) clients c ts are.fit e

  apart_differ : (t u : Task) (ts us : List Task) → In t ts → In u us → Apart ts us → Differ t u
  apart_differ t u ts us m n h = all_in (Differ t) us u (all_in (λ (x : Task). AllByRecursion (Differ x) us) ts t h m) n

  pub numbers_differ : (c d : ℕ) (ts us : List Task) → c ≢ d → slice_get clients c ≡ Some ts → slice_get clients d ≡ Some us → (t u : Task) → In t ts → In u us → t.number ≢ u.number
  numbers_differ c d ts us ne e f t u m n = ⊎_elim (λ h. (apart_differ t u ts us m n h).0) (λ h q. (apart_differ u t us ts n m h).0 (sym q)) (get_before Apart clients c d ts us are.differ ne e f)

  -- a number is one task's
  pub one_task : (c d : ℕ) (t u : Task) → Asks clients c t → Asks clients d u → t.number ≡ u.number → (c ≡ d) × (t ≡ u)
  one_task c d t u a b e = dite (ℕ_discrete c d)
      (λ same. (
        same,
        let q : a.0 ≡ b.0 = same_some (slice_get clients c) a.0 b.0 a.1 (ap (slice_get clients) same ∙ b.1) in let m : In t b.0 = subst (In t) q a.2 in
            ⊎_elim (λ h. h) (λ h. ⊎_elim (λ x. absurd (omega arith)) (λ x. absurd (omega arith)) h) (before_or_same Less b.0 t u (sorted_of d b.0 b.1) m b.2),
      ))
      (λ far. absurd (numbers_differ c d a.0 b.0 far a.1 b.1 t u a.2 b.2 e))

  own_links : (n m k l : ℕ) (a b : Op) → a ≡ ops.Open n k → b ≡ ops.Open m l → HaveOwnLinks a b → k ≢ l
  own_links n m k l a b e f h = let g : HaveOwnLinks (ops.Open n k) (ops.Open m l) = subst (λ z. HaveOwnLinks (ops.Open n k) z) f (subst (λ z. HaveOwnLinks z b) e h) in g

  -- a link is one task's
  pub one_link : (c d n m k : ℕ) (t u : Task) → Asks clients c t → Asks clients d u → t.op ≡ ops.Open n k → u.op ≡ ops.Open m k → t ≡ u
  one_link c d n m k t u a b e f = dite (ℕ_discrete c d)
      (λ same. let q : a.0 ≡ b.0 = same_some (slice_get clients c) a.0 b.0 a.1 (ap (slice_get clients) same ∙ b.1) in let i : In t b.0 = subst (In t) q a.2 in
      ⊎_elim (λ h. h) (λ h. ⊎_elim (λ x. absurd (own_links n m k k t.op u.op e f x.1 refl)) (λ x. absurd (own_links m n k k u.op t.op f e x.1 refl)) h)
      (before_or_same InOrder b.0 t u (get_all (EachBefore InOrder) clients d b.0 are.in_order b.1) i b.2))
      (λ far. ⊎_elim (λ h. absurd (own_links n m k k t.op u.op e f (apart_differ t u a.0 b.0 a.2 b.2 h).1 refl)) (λ h. absurd (own_links m n k k u.op t.op f e (apart_differ u t b.0 a.0 b.2 a.2 h).1 refl))
      (get_before Apart clients c d a.0 b.0 are.differ far a.1 b.1))

  -- the setup opens sockets only
  pub setup_opens : (t : Task) → Asks clients 0 t → IsOpen t.op
  setup_opens t a = all_in (λ (x : Task). IsOpen x.op) a.0 t (are.setup a.0 a.1) a.2
