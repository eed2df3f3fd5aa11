-- Elements of lists by their places.
use Rattle.std.proofs.Common.{◌≡◌, ℕ, zero, suc, List, [], ◌∷◌, ◌++◌, map, flat_map, get_or, take, drop, Some, None, refl, sym, ap, subst}
use Rattle.std.specs.Prelude.{Option, slice_get}
use Rattle.std.specs.List.{AllByRecursion, remove}
use mathlib.Core.Option as core
use lib.ListN.{get_elem?}

module _ {A : Type 0} where
  -- what stands in front, with more behind it
  pub at_front : (xs ys : List A) (i : ℕ) (x : A) → slice_get xs i ≡ Some x → slice_get (xs ++ ys) i ≡ Some x
  at_front [] ys i x e = absurd (cc)
  at_front (y ∷ xs) ys zero x e = e
  at_front (y ∷ xs) ys (suc i) x e = at_front xs ys i x e

  -- what stands behind, with more in front of it
  pub at_back : (xs ys : List A) (x : A) → (i : ℕ) × (slice_get ys i ≡ Some x) → (i : ℕ) × (slice_get (xs ++ ys) i ≡ Some x)
  at_back [] ys x h = h
  at_back (y ∷ xs) ys x h = let r = at_back xs ys x h in (suc r.0, r.1)

  -- the last
  pub last_there : (xs : List A) (x : A) → (i : ℕ) × (get_elem? (xs ++ x ∷ []) i ≡ core.some x)
  last_there [] x = (0, refl)
  last_there (y ∷ xs) x = let r = last_there xs x in (suc r.0, r.1)

  pub some_same : (x y : A) → Some x ≡ Some y → x ≡ y
  some_same x y e = ap (λ (o : Option A). or_else o) e
    where
      or_else : Option A → A
      or_else None = x
      or_else (Some z) = z

  module _ (P : A → Type 0) where
    pub all_both : (xs ys : List A) → AllByRecursion P xs → AllByRecursion P ys → AllByRecursion P (xs ++ ys)
    all_both [] ys a b = b
    all_both (x ∷ xs) ys a b = (a.0, all_both xs ys a.1 b)

    pub all_taken : (n : ℕ) (xs : List A) → AllByRecursion P xs → AllByRecursion P (take n xs)
    all_taken zero xs a = tt
    all_taken (suc n) [] a = tt
    all_taken (suc n) (x ∷ xs) a = (a.0, all_taken n xs a.1)

    pub all_dropped : (n : ℕ) (xs : List A) → AllByRecursion P xs → AllByRecursion P (drop n xs)
    all_dropped zero xs a = a
    all_dropped (suc n) [] a = tt
    all_dropped (suc n) (x ∷ xs) a = all_dropped n xs a.1

    pub all_but : (i : ℕ) (xs : List A) → AllByRecursion P xs → AllByRecursion P (remove xs i)
    all_but i xs a = all_both (take i xs) (drop (suc i) xs) (all_taken i xs a) (all_dropped (suc i) xs a)

    pub all_at : (xs : List A) (i : ℕ) (x : A) → AllByRecursion P xs → get_elem? xs i ≡ core.some x → P x
    all_at [] i x a e = absurd (core.some-ne-none x (sym e))
    all_at (y ∷ xs) zero x a e = subst P (core.some-injective y x e) a.0
    all_at (y ∷ xs) (suc i) x a e = all_at xs i x a.1 e

    pub all_there : (xs : List A) (i : ℕ) (x : A) → AllByRecursion P xs → slice_get xs i ≡ Some x → P x
    all_there [] i x a e = absurd (cc)
    all_there (y ∷ xs) zero x a e = subst P (some_same y x e) a.0
    all_there (y ∷ xs) (suc i) x a e = all_there xs i x a.1 e

  pub all_then : (P Q : A → Type 0) (xs : List A) → ((x : A) → P x → Q x) → AllByRecursion P xs → AllByRecursion Q xs
  all_then P Q [] f a = tt
  all_then P Q (x ∷ xs) f a = (f x a.0, all_then P Q xs f a.1)

  pub all_two : (P Q R : A → Type 0) (xs : List A) → ((x : A) → P x → Q x → R x) → AllByRecursion P xs → AllByRecursion Q xs → AllByRecursion R xs
  all_two P Q R [] f a b = tt
  all_two P Q R (x ∷ xs) f a b = (f x a.0 b.0, all_two P Q R xs f a.1 b.1)

  pub all_behind : (P : A → Type 0) (xs ys : List A) → AllByRecursion P (xs ++ ys) → AllByRecursion P ys
  all_behind P [] ys a = a
  all_behind P (x ∷ xs) ys a = all_behind P xs ys a.1

  module _ {B : Type 0} (f : A → B) (P : B → Type 0) where
    pub all_mapped : (xs : List A) → AllByRecursion (λ (x : A). P (f x)) xs → AllByRecursion P (map f xs)
    all_mapped [] a = tt
    all_mapped (x ∷ xs) a = (a.0, all_mapped xs a.1)

    pub of_mapped : (xs : List A) → AllByRecursion P (map f xs) → AllByRecursion (λ (x : A). P (f x)) xs
    of_mapped [] a = tt
    of_mapped (x ∷ xs) a = (a.0, of_mapped xs a.1)

  pub elem_or : (xs : List A) (i : ℕ) (x d : A) → get_elem? xs i ≡ core.some x → get_or xs i d ≡ x
  elem_or [] i x d e = absurd (core.some-ne-none x (sym e))
  elem_or (y ∷ xs) zero x d e = core.some-injective y x e
  elem_or (y ∷ xs) (suc i) x d e = elem_or xs i x d e

pub all_flat : {A B : Type 0} (f : A → List B) (P : B → Type 0) (xs : List A) → AllByRecursion (λ (x : A). AllByRecursion P (f x)) xs → AllByRecursion P (flat_map f xs)
all_flat f P [] a = tt
all_flat f P (x ∷ xs) a = all_both P (f x) (flat_map f xs) a.0 (all_flat f P xs a.1)
