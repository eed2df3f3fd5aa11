-- The words and homes of slots that were never used.
use Rattle.std.proofs.Common.{◌≡◌, ℕ, zero, suc, ◌+◌, ◌*◌, length, map, replicate, List, ◌∷◌, ◌++◌, refl, ap, ◌∙◌, append_assoc, arith}
use Rattle.seat_programs.specs.ScriptSetupToEnding.{opening_ids}

last_slot : (n : ℕ) → opening_ids n ++ opening_ids 1 ≡ opening_ids (n + 1)
last_slot zero = refl
last_slot (suc n) = let e : suc n + 1 ≡ suc (n + 1) = omega arith in rw e (ap (λ (l : List ℕ). 0 ∷ 274877906944 ∷ l) (last_slot n))

pub slots_more : (xs ys : List ℕ) (n : ℕ) → ys ≡ xs ++ opening_ids n → ys ++ opening_ids 1 ≡ xs ++ opening_ids (n + 1)
slots_more xs ys n e = ap (λ (l : List ℕ). l ++ opening_ids 1) e ∙ append_assoc xs (opening_ids n) (opening_ids 1) ∙ ap (λ (l : List ℕ). xs ++ l) (last_slot n)

pub ids_length : (n : ℕ) → length (opening_ids n) ≡ 2 * n
ids_length zero = refl
ids_length (suc n) = omega (arith, ids_length n)

pub map_replicate : {A B : Type 0} (f : A → B) (n : ℕ) (x : A) → map f (replicate n x) ≡ replicate n (f x)
map_replicate f zero x = refl
map_replicate f (suc n) x = ap (λ (l : List _). f x ∷ l) (map_replicate f n x)
