-- Where bytes of a meta lie.
use Rattle.std.specs.Prelude.{ℕ, ◌≤◌, List, [], ◌∷◌, take}
use Rattle.rpc_meta.specs.declared.meta.MetaBytes.TheInside.{Inside}
use Rattle.rpc_meta.specs.declared.meta.TheConstants.{HERE_BYTES}

-- those in memory, or where there are none the first so many in place
abbrev pub held_in : List ℕ → ℕ → List ℕ → List ℕ
held_in here len [] = take len here
held_in here len (b ∷ bytes) = b ∷ bytes

abbrev pub held_bytes : Inside → List ℕ
held_bytes b = held_in b.here b.len b.heap.items

-- no more are counted in place than there is room for
abbrev pub IsHeld : Inside → Type 0
IsHeld b = b.len ≤ HERE_BYTES
