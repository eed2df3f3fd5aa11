-- The blocks that a pool keeps, when one is taken.
use Rattle.std.proofs.Common.{◌≡◌, ℕ, ◌-◌, ◌<◌, ◌≤◌, List, length, take, set, get_or, All, arith, sym, subst, ◌∙◌, length-take}
use Rattle.std.proofs.lemmas.List.{take-set, take-take, get_or-take}
use Rattle.std.proofs.lemmas.List.Elements.{All-same, All-take, All-get_or}
use Rattle.bytes.specs.Filled.{Filled}
use Rattle.io_block.specs.Pool.{IsFree}

-- the others stay free, whatever stands in the place of the last
pub free_kept : (xs : List Filled) (n : ℕ) (b : Filled) → All IsFree (take n xs) → All IsFree (take (n - 1) (set xs (n - 1) b))
free_kept xs n b free =
    All-same IsFree _ _ (take-set xs (n - 1) b ∙ sym (take-take (n - 1) n xs (omega arith))) (All-take IsFree (n - 1) (take n xs) free)

-- the last is free
pub free_last : (xs : List Filled) (n : ℕ) (b d : Filled) → 0 < n → n ≤ length xs → All IsFree (take n xs) → b ≡ get_or xs (n - 1) d → IsFree b
free_last xs n b d some fits free is =
    subst IsFree (get_or-take n xs (n - 1) d (omega arith) ∙ sym is) (All-get_or IsFree (take n xs) (n - 1) d (omega (arith, length-take n xs)) free)
