-- A count is at least the length of a list of which each element has a place of its own that counts.
use Rattle.std.proofs.Common.{◌≡◌, ◌≢◌, ℕ, zero, suc, ◌+◌, ◌<◌, ◌≤◌, ◌==◌, ◌&&◌, Bool, true, false, not, cond, List, [], ◌∷◌, length, count_by, slice_get, Option, Some, None, refl, ap, sym, ◌∙◌, subst, arith}
use Rattle.std.proofs.lemmas.Bool.Decides.{nat_tests}
use Rattle.std.proofs.lemmas.List.Sums.{sum_by-cons}
use Rattle.std.specs.List.{AllByRecursion}
use Rattle.brpc_model.specs.Order.{EachBefore}
use Rattle.script_facts.proofs.FilteredLists.{all_from, all_at, all_map}

-- how many places below n pass
abbrev pub tally : (ℕ → Bool) → ℕ → ℕ
tally b zero = 0
tally b (suc n) = tally b n + cond (b n) 1 0

-- without one place
abbrev pub but : (ℕ → Bool) → ℕ → ℕ → Bool
but b j k = b k && not (k == j)

pub but_other : (b : ℕ → Bool) (j k : ℕ) → k ≢ j → but b j k ≡ b k
but_other b j k h = grind (arith, nat_tests)

but_same : (b : ℕ → Bool) (j : ℕ) → but b j j ≡ false
but_same b j = grind (arith, nat_tests)

below_but : (b : ℕ → Bool) (j n : ℕ) → n ≤ j → tally (but b j) n ≡ tally b n
below_but b j zero h = refl
below_but b j (suc n) h =
    let same : cond {A = ℕ} (but b j n) 1 0 ≡ cond (b n) 1 0 = ap {B = ℕ} (λ x. cond x 1 0) (but_other b j n (λ e. omega (arith, e, h))) in
    omega (arith, below_but b j n (omega (arith, h)), same)

pub one_less : (b : ℕ → Bool) (j n : ℕ) → j < n → b j ≡ true → tally b n ≡ tally (but b j) n + 1
one_less b j zero h e = absurd (omega (arith, h))
one_less b j (suc n) h e = elim (n == j) as (λ x. (n == j) ≡ x → tally b (suc n) ≡ tally (but b j) (suc n) + 1) [
  | true ↦ λ t. let same : j ≡ n = grind (arith, nat_tests) in
      let here : cond {A = ℕ} (b n) 1 0 ≡ 1 = ap {B = ℕ} (λ x. cond x 1 0) (ap b (sym same) ∙ e) in
      let gone : cond {A = ℕ} (but b j n) 1 0 ≡ 0 = ap {B = ℕ} (λ x. cond x 1 0) (ap (but b j) (sym same) ∙ but_same b j) in
      omega (arith, here, gone, below_but b j n (omega (arith, same)))
  | false ↦ λ t. let other : n ≢ j = grind (arith, nat_tests) in
      let less : j < n = omega (arith, h, other) in
      let same : cond {A = ℕ} (but b j n) 1 0 ≡ cond (b n) 1 0 = ap {B = ℕ} (λ x. cond x 1 0) (but_other b j n other) in
      omega (arith, same, one_less b j n less e)
] refl

-- each element of the list has a place below n that passes, and elements that may not share one
abbrev pub HasPlace : {A : Type 0} → (A → ℕ → Type 0) → (ℕ → Bool) → ℕ → A → Type 0
HasPlace Place b n x = (j : ℕ) × (j < n) × (b j ≡ true) × Place x j

pub places : {A : Type 0} (Place : A → ℕ → Type 0) (Apart : A → A → Type 0) (n : ℕ) → ((x y : A) (j : ℕ) → Apart x y → Place x j → Place y j → ⊥) →
    (xs : List A) (b : ℕ → Bool) → EachBefore Apart xs → AllByRecursion (HasPlace Place b n) xs → length xs ≤ tally b n
places Place Apart n own [] b apart h = omega arith
places Place Apart n own (x ∷ xs) b apart h =
    let j = h.0.0 in
    let others : AllByRecursion (HasPlace Place (but b j) n) xs = all_from (HasPlace Place (but b j) n) xs (λ y g.
    let w = all_at (HasPlace Place b n) xs y h.1 g in
    let other : w.0 ≢ j = λ e. own x y j (all_at (Apart x) xs y apart.0 g) h.0.3 (subst (Place y) e w.3) in
    (w.0, w.1, but_other b j w.0 other ∙ w.2, w.3)) in
    omega (arith, places Place Apart n own xs (but b j) apart.1 others, one_less b j n h.0.1 h.0.2)

-- ## The places that pass

abbrev pub passing : (ℕ → Bool) → ℕ → List ℕ
passing b zero = []
passing b (suc n) = cond (b n) (n ∷ passing b n) (passing b n)

passing_step : (x : Bool) (n : ℕ) (ns : List ℕ) (t : ℕ) → length ns ≡ t → length (cond x (n ∷ ns) ns) ≡ t + cond x 1 0
passing_step true n ns t e = omega (arith, e)
passing_step false n ns t e = omega (arith, e)

pub passing_length : (b : ℕ → Bool) (n : ℕ) → length (passing b n) ≡ tally b n
passing_length b zero = refl
passing_length b (suc n) = passing_step (b n) n (passing b n) (tally b n) (passing_length b n)

abbrev pub Passes : (ℕ → Bool) → ℕ → ℕ → Type 0
Passes b n j = (j < n) × (b j ≡ true)

pass_step : (b : ℕ → Bool) (x : Bool) (n : ℕ) (ns : List ℕ) → b n ≡ x → AllByRecursion (Passes b n) ns → AllByRecursion (Passes b (suc n)) (cond x (n ∷ ns) ns)
pass_step b true n ns e h = ((omega arith, e), all_map (Passes b n) (Passes b (suc n)) (λ j w. (omega (arith, w.0), w.1)) ns h)
pass_step b false n ns e h = all_map (Passes b n) (Passes b (suc n)) (λ j w. (omega (arith, w.0), w.1)) ns h

pub passing_pass : (b : ℕ → Bool) (n : ℕ) → AllByRecursion (Passes b n) (passing b n)
passing_pass b zero = tt
passing_pass b (suc n) = pass_step b (b n) n (passing b n) refl (passing_pass b n)

apart_step : (b : ℕ → Bool) (x : Bool) (n : ℕ) (ns : List ℕ) → AllByRecursion (Passes b n) ns → EachBefore (λ (i j : ℕ). i ≢ j) ns → EachBefore (λ (i j : ℕ). i ≢ j) (cond x (n ∷ ns) ns)
apart_step b true n ns h apart = (all_map (Passes b n) (λ j. n ≢ j) (λ j w e. omega (arith, w.0, e)) ns h, apart)
apart_step b false n ns h apart = apart

pub passing_apart : (b : ℕ → Bool) (n : ℕ) → EachBefore (λ (i j : ℕ). i ≢ j) (passing b n)
passing_apart b zero = tt
passing_apart b (suc n) = apart_step b (b n) n (passing b n) (passing_pass b n) (passing_apart b n)

pub tally_all : (n : ℕ) → tally (λ j. true) n ≡ n
tally_all zero = refl
tally_all (suc n) = omega (arith, tally_all n)

-- ## The count of a list by its places

abbrev pub passes_at : {A : Type 0} → (A → Bool) → Option A → Bool
passes_at p None = false
passes_at p (Some x) = p x

tally_shift : (b : ℕ → Bool) (n : ℕ) → tally b (suc n) ≡ cond (b 0) 1 0 + tally (λ j. b (suc j)) n
tally_shift b zero = omega arith
tally_shift b (suc n) = omega (arith, tally_shift b n)

pub count_tally : {A : Type 0} (p : A → Bool) (xs : List A) → count_by p xs ≡ tally (λ j. passes_at p (slice_get xs j)) (length xs)
count_tally p [] = refl
count_tally p (x ∷ xs) =
    let shift : tally (λ j. passes_at p (slice_get (x ∷ xs) j)) (suc (length xs)) ≡ cond (p x) 1 0 + tally (λ j. passes_at p (slice_get xs j)) (length xs) = tally_shift (λ j. passes_at p (slice_get (x ∷ xs) j)) (length xs) in
    omega (arith, sum_by-cons (λ y. cond (p y) 1 0) x xs, shift, count_tally p xs)
