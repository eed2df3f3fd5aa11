-- Where a line or a word is cut.
use Rattle.std.proofs.Common.{◌≡◌, ℕ, ◌<◌, ◌≤◌, ◌+◌, Bool, true, false, cond, Some, None, List, [], ◌∷◌, length, take, drop, nat_lt, refl, subst, arith, position}
use Rattle.std.proofs.lemmas.Grind.{common_steps}
use Rattle.std.proofs.lemmas.List.Splits.{slice_split_first, slice_split_none}
use Rattle.std.proofs.lemmas.List.Sums.{fails_before_first}
use Rattle.std.specs.List.{slice_split, position_or_len}

-- before the first such byte is the first piece, and behind it are the others
pub cut_at : (p : ℕ → Bool) (xs : List ℕ) (n : ℕ) → Some n ≡ position p xs → slice_split p xs ≡ take n xs ∷ slice_split p (drop (n + 1) xs)
cut_at p xs n found = elim (nat_lt (position_or_len p xs) (length xs)) as (λ b. nat_lt (position_or_len p xs) (length xs) ≡ b → Some n ≡ cond b (Some (position_or_len p xs)) None → slice_split p xs ≡ take n xs ∷ slice_split p (drop (n + 1) xs)) [
  | true ↦ λ t e.
      let within : position_or_len p xs < length xs = grind (arith, common_steps, t) in
      let same : position_or_len p xs ≡ n = cc in
      let P : ℕ → Type 0 = λ k. slice_split p xs ≡ take k xs ∷ slice_split p (drop (k + 1) xs) in
      subst P same (slice_split_first p xs 0 within)
  | false ↦ λ t e. cc
] refl found

-- without such a byte there is one piece
pub not_cut : (p : ℕ → Bool) (xs : List ℕ) → None ≡ position p xs → slice_split p xs ≡ xs ∷ []
not_cut p xs none = elim (nat_lt (position_or_len p xs) (length xs)) as (λ b. nat_lt (position_or_len p xs) (length xs) ≡ b → None ≡ cond b (Some (position_or_len p xs)) None → slice_split p xs ≡ xs ∷ []) [
  | true ↦ λ t e. cc
  | false ↦ λ t e.
      let beyond : length xs ≤ position_or_len p xs = grind (arith, common_steps, t) in
      slice_split_none p xs (λ k d h. fails_before_first p xs k d (omega arith))
] refl none
