-- Places in lists, as they are told in two ways, and in lists that are mapped.
use Rattle.std.proofs.Common.{◌≡◌, ℕ, zero, suc, ◌<◌, List, [], ◌∷◌, ◌++◌, length, map, slice_get, Some, refl, sym, ap, arith}
use Rattle.std.proofs.lemmas.Option.{none-some, same_Some}
use mathlib.Core.Option.{some, some-injective, some-ne-none}
use lib.ListN.{get_elem?}

module _ {A : Type 0} where
  pub to_slice : (xs : List A) (k : ℕ) (x : A) → get_elem? xs k ≡ some x → slice_get xs k ≡ Some x
  to_slice [] k x e = absurd (some-ne-none x (sym e))
  to_slice (y ∷ ys) zero x e = ap Some (some-injective y x e)
  to_slice (y ∷ ys) (suc k) x e = to_slice ys k x e

  pub to_elem : (xs : List A) (k : ℕ) (x : A) → slice_get xs k ≡ Some x → get_elem? xs k ≡ some x
  to_elem [] k x e = absurd (none-some x e)
  to_elem (y ∷ ys) zero x e = ap some (same_Some y x e)
  to_elem (y ∷ ys) (suc k) x e = to_elem ys k x e

  pub place_low : (xs : List A) (k : ℕ) (x : A) → get_elem? xs k ≡ some x → k < length xs
  place_low [] k x e = absurd (some-ne-none x (sym e))
  place_low (y ∷ ys) zero x e = omega arith
  place_low (y ∷ ys) (suc k) x e = let a = place_low ys k x e in omega arith

  pub place_there : (xs : List A) (k : ℕ) → k < length xs → (x : A) × (get_elem? xs k ≡ some x)
  place_there [] k less = absurd (omega arith)
  place_there (x ∷ xs) zero less = (x, refl)
  place_there (x ∷ xs) (suc k) less = place_there xs k (omega arith)

module _ {A B : Type 0} (f : A → B) where
  pub map_there : (xs : List A) (k : ℕ) (x : A) → get_elem? xs k ≡ some x → get_elem? (map f xs) k ≡ some (f x)
  map_there [] k x e = absurd (some-ne-none x (sym e))
  map_there (y ∷ ys) zero x e = ap (λ z. some (f z)) (some-injective y x e)
  map_there (y ∷ ys) (suc k) x e = map_there ys k x e

  pub map_back : (xs : List A) (k : ℕ) (b : B) → get_elem? (map f xs) k ≡ some b → (x : A) × (get_elem? xs k ≡ some x) × (f x ≡ b)
  map_back [] k b e = absurd (some-ne-none b (sym e))
  map_back (y ∷ ys) zero b e = (y, refl, some-injective (f y) b e)
  map_back (y ∷ ys) (suc k) b e = map_back ys k b e

  pub map_append : (xs ys : List A) → map f (xs ++ ys) ≡ map f xs ++ map f ys
  map_append [] ys = refl
  map_append (x ∷ xs) ys = ap (λ l. f x ∷ l) (map_append xs ys)
