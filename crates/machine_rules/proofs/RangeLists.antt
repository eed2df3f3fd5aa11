-- Lists over a range of numbers, and lists of which one element is changed.
use Rattle.std.proofs.Common.{◌≡◌, ◌≢◌, refl, ℕ, zero, suc, ◌+◌, ◌<◌, List, [], ◌∷◌, ◌++◌, map, flat_map, length, slice_set, ap, sym, ◌∙◌, arith}
use Rattle.std.proofs.lemmas.List.{append-nil}
use mathlib.Core.Option.{some}
use lib.ListN.{get_elem?}
use Rattle.seat_programs.specs.ScheduledRuns.{from_to}

module _ {A : Type 0} where
  pub get-range : (f : ℕ → A) (a n k : ℕ) → k < n → get_elem? (map f (from_to a n)) k ≡ some (f (a + k))
  get-range f a zero k h = absurd (omega arith)
  get-range f a (suc n) zero h = ap (λ z. some (f z)) (omega arith)
  get-range f a (suc n) (suc k) h = get-range f (a + 1) n k (omega arith) ∙ ap (λ z. some (f z)) (omega arith)

  pub map-range_same : (f g : ℕ → A) (a n : ℕ) → ((j : ℕ) → j < a + n → f j ≡ g j) → map f (from_to a n) ≡ map g (from_to a n)
  map-range_same f g a zero h = refl
  map-range_same f g a (suc n) h = rw (h a (omega arith)) (ap (λ (l : List A). g a ∷ l) (map-range_same f g (a + 1) n (λ j q. h j (omega arith))))

  map-past : (f g : ℕ → A) (a n : ℕ) → ((j : ℕ) → a < j → j < a + suc n → f j ≡ g j) → map f (from_to (a + 1) n) ≡ map g (from_to (a + 1) n)
  map-past f g a zero h = refl
  map-past f g a (suc n) h = rw (h (a + 1) (omega arith) (omega arith)) (ap (λ (l : List A). g (a + 1) ∷ l) (map-past f g (a + 1) n (λ j q r. h j (omega arith) (omega arith))))

  pub set-range : (f g : ℕ → A) (a n k : ℕ) (y : A) → k < n → g (a + k) ≡ y → ((j : ℕ) → j < a + n → j ≢ a + k → f j ≡ g j) → slice_set (map f (from_to a n)) k y ≡ map g (from_to a n)
  set-range f g a zero k y h e other = absurd (omega arith)
  set-range f g a (suc n) zero y h e other =
      let here : y ≡ g a = sym e ∙ ap g (omega arith) in
      rw here (ap (λ (l : List A). g a ∷ l) (map-past f g a n (λ j q s. other j (omega arith) (λ r. omega arith))))
  set-range f g a (suc n) (suc k) y h e other =
      rw (other a (omega arith) (λ r. omega arith)) (ap (λ (l : List A). g a ∷ l) (set-range f g (a + 1) n k y (omega arith) (ap g (omega arith) ∙ e) (λ j s q. other j (omega arith) (λ r. q (omega arith)))))

  -- lists one behind another
  pub get-behind : (xs ys : List A) (k : ℕ) → get_elem? (xs ++ ys) (length xs + k) ≡ get_elem? ys k
  get-behind [] ys k = ap (get_elem? ys) (omega arith)
  get-behind (x ∷ xs) ys k = let e : length (x ∷ xs) + k ≡ suc (length xs + k) = omega arith in rw e (get-behind xs ys k)

  pub set-behind : (xs ys : List A) (k : ℕ) (y : A) → slice_set (xs ++ ys) (length xs + k) y ≡ xs ++ slice_set ys k y
  set-behind [] ys k y = ap (λ z. slice_set ys z y) (omega arith)
  set-behind (x ∷ xs) ys k y = let e : length (x ∷ xs) + k ≡ suc (length xs + k) = omega arith in rw e (ap (λ (l : List A). x ∷ l) (set-behind xs ys k y))

  -- ## What several lists have

  pub flat-none : (f : ℕ → List A) (a n : ℕ) → ((j : ℕ) → a < suc j → j < a + n → f j ≡ []) → flat_map f (from_to a n) ≡ []
  flat-none f a zero h = refl
  flat-none f a (suc n) h = rw (h a (omega arith) (omega arith)) (flat-none f (a + 1) n (λ j q r. h j (omega arith) (omega arith)))

  pub flat-one : (f : ℕ → List A) (a n k : ℕ) → k < n → ((j : ℕ) → j < a + n → j ≢ a + k → f j ≡ []) → flat_map f (from_to a n) ≡ f (a + k)
  flat-one f a zero k h other = absurd (omega arith)
  flat-one f a (suc n) zero h other =
      let here : f a ≡ f (a + 0) = ap f (omega arith) in
      let past : flat_map f (from_to (a + 1) n) ≡ [] = flat-none f (a + 1) n (λ j q r. other j (omega arith) (λ s. omega arith)) in
      ap (λ (l : List A). f a ++ l) past ∙ append-nil (f a) ∙ here
  flat-one f a (suc n) (suc k) h other =
      rw (other a (omega arith) (λ r. omega arith)) (flat-one f (a + 1) n k (omega arith) (λ j s q. other j (omega arith) (λ r. q (omega arith))) ∙ ap f (omega arith))

  pub flat-same : (f g : ℕ → List A) (a n : ℕ) → ((j : ℕ) → j < a + n → f j ≡ g j) → flat_map f (from_to a n) ≡ flat_map g (from_to a n)
  flat-same f g a zero h = refl
  flat-same f g a (suc n) h = rw (h a (omega arith)) (ap (λ (l : List A). g a ++ l) (flat-same f g (a + 1) n (λ j q. h j (omega arith))))
