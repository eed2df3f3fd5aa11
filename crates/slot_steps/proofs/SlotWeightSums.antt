-- Sums of weights over lists that change at one place, and the marks of one slot.
use Rattle.std.proofs.Common.{◌≡◌, ℕ, zero, suc, ◌+◌, ◌*◌, ◌<◌, ◌≤◌, ◌≢◌, List, [], ◌∷◌, ◌++◌, length, set, sym, refl, ap, subst, ⊎_elim, arith, cond, eqb, eq-eqb, ne_eqb}
use mathlib.Core.Logic.{dite}
use mathlib.Core.Option.{some, some-injective, some-ne-none}
use native.Mathlib.Decide.{ℕ_discrete}
use lib.ListN.{get_elem?}
use Rattle.atomic_table.proofs.Lists.{at_set}
use Rattle.sock_model.specs.declared.marks.Mark.{Mark}
use Rattle.sock_model.specs.declared.marks.SlotMark.{SlotMark}
use Rattle.sock_model.specs.MarkWeights.{tally}
use Rattle.sock_model.specs.Marks.{about, at, without}
use Rattle.sock_model.specs.SocketSlotLaw.{Each}
use Rattle.sock_model.specs.sock_words.specs.Totals.{total}

module _ {A : Type 0} (g : A → ℕ) where
  pub total-append : (l m : List A) → total g (l ++ m) ≡ total g l + total g m
  total-append [] m = omega arith
  total-append (x ∷ xs) m = omega (arith, total-append xs m)

  pub total-set : (l : List A) (j : ℕ) (v w : A) → get_elem? l j ≡ some v → total g (set l j w) + g v ≡ total g l + g w
  total-set [] j v w e = absurd (some-ne-none v (sym e))
  total-set (x ∷ xs) zero v w e = omega (arith, ap g (some-injective x v e))
  total-set (x ∷ xs) (suc j) v w e = omega (arith, total-set xs j v w e)

  pub term_le : (l : List A) (j : ℕ) (v : A) → get_elem? l j ≡ some v → g v ≤ total g l
  term_le [] j v e = absurd (some-ne-none v (sym e))
  term_le (x ∷ xs) zero v e = omega (arith, ap g (some-injective x v e))
  term_le (x ∷ xs) (suc j) v e = omega (arith, term_le xs j v e)

  pub total_bound : (b : ℕ) (l : List A) → ((j : ℕ) (v : A) → get_elem? l j ≡ some v → g v ≤ b) → total g l ≤ length l * b
  total_bound b [] h = omega arith
  total_bound b (x ∷ xs) h = let here = h 0 x refl in let more = total_bound b xs (λ j v e. h (suc j) v e) in
      let t : ℕ = length xs * b in let m : total g xs ≤ t = more in let d : suc (length xs) * b ≡ t + b = grind arith in omega arith

-- a mark that has a weight stands there, and the rest has all other weights
pub taken : (g : Mark → ℕ) (ms : List Mark) → 0 < total g ms → (m : Mark) × (0 < g m) × ((f : Mark → ℕ) → total f (without g ms) + f m ≡ total f ms)
taken g [] h = absurd (omega arith)
taken g (x ∷ xs) h = dite (ℕ_discrete (g x) 0)
    (λ e. let t = taken g xs (omega arith) in let all = t.2 in (t.0, t.1, λ f. let a = all f in let b : total f (cond (eqb (g x) 0) (x ∷ without g xs) xs) ≡ f x + total f (without g xs) = ap (λ z. total f (cond z (x ∷ without g xs) xs)) (eq-eqb (g x) 0 e) in omega arith))
    (λ n. (x, omega arith, λ f. let b : total f (cond (eqb (g x) 0) (x ∷ without g xs) xs) ≡ total f xs = ap (λ z. total f (cond z (x ∷ without g xs) xs)) (ne_eqb (g x) 0 n) in omega arith))

pub about-here : (i : ℕ) (m : Mark) (es : List SlotMark) → about i (at i m ∷ es) ≡ m ∷ about i es
about-here i m es = ap (λ z. cond z (m ∷ about i es) (about i es)) (eq-eqb i i refl)

pub about-other : (i j : ℕ) (m : Mark) (es : List SlotMark) → i ≢ j → about i (at j m ∷ es) ≡ about i es
about-other i j m es n = ap (λ z. cond z (m ∷ about i es) (about i es)) (ne_eqb j i (λ e. n (sym e)))

-- the same, where one mark alone has a weight
pub taken_as : (g : Mark → ℕ) (e : Mark) (ms : List Mark) → ((x : Mark) → 0 < g x → x ≡ e) → 0 < total g ms → (f : Mark → ℕ) → total f (without g ms) + f e ≡ total f ms
taken_as g e ms one h f = let t = taken g ms h in let all = t.2 f in let same : f t.0 ≡ f e = ap f (one t.0 t.1) in omega arith

module _ {A : Type 0} (f g : A → ℕ) where
  pub total_mono : ((x : A) → f x ≤ g x) → (l : List A) → total f l ≤ total g l
  total_mono h [] = omega arith
  total_mono h (x ∷ xs) = omega (arith, h x, total_mono h xs)

  pub tally_mono : ((x : A) → f x ≤ g x) → (l : List (List A)) → tally f l ≤ tally g l
  tally_mono h [] = omega arith
  tally_mono h (x ∷ xs) = omega (arith, total_mono h x, tally_mono h xs)

module _ {A : Type 0} (f g k : A → ℕ) (h : (x : A) → f x ≡ g x + k x) where
  pub total_parts : (l : List A) → total f l ≡ total g l + total k l
  total_parts [] = omega arith
  total_parts (x ∷ xs) = omega (arith, h x, total_parts xs)

  pub tally_parts : (l : List (List A)) → tally f l ≡ tally g l + tally k l
  tally_parts [] = omega arith
  tally_parts (x ∷ xs) = omega (arith, total_parts x, tally_parts xs)

-- some member has a weight
pub total_some : {A : Type 0} (g : A → ℕ) (l : List A) → 0 < total g l → (j : ℕ) × (v : A) × (get_elem? l j ≡ some v) × (0 < g v)
total_some g [] h = absurd (omega arith)
total_some g (x ∷ xs) h = dite (ℕ_discrete (g x) 0)
    (λ e. let t = total_some g xs (omega arith) in (suc t.0, t.1, t.2, t.3))
    (λ n. (zero, x, refl, omega arith))

pub each_set : (P : List Mark → Type 0) (ms : List (List Mark)) (j : ℕ) (w : List Mark) → Each ms P → P w → Each (set ms j w) P
each_set P ms j w all now k u e = ⊎_elim (λ t. subst P t.1 now) (λ t. all k u t.1) (at_set ms j k w u e)
