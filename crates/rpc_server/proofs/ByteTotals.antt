-- Sums of bytes, piece by piece.
use Rattle.std.proofs.Common.{◌≡◌, ℕ, suc, ◌+◌, ◌*◌, ◌≤◌, List, [], ◌∷◌, length, take, drop, sum, slice_index_or, Fits, w8, arith}
use Rattle.std.proofs.lemmas.List.Sums.{sum_by-take-drop, sum_by-cons}

pub sum_parts : (l : List ℕ) (k : ℕ) → sum (take k l) + sum (drop k l) ≡ sum l
sum_parts l k = sum_by-take-drop (λ n. n) l k

-- no byte is above 255
pub sum_at_most : (l : List ℕ) → ((i : ℕ) → Fits w8 (slice_index_or l i 0)) → sum l ≤ 255 * length l
sum_at_most [] fits = omega arith
sum_at_most (b ∷ l) fits = omega (arith, sum_by-cons (λ n. n) b l, fits 0, sum_at_most l (λ i. fits (suc i)))
