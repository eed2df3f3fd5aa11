-- A source that keeps what was read.
use Rattle.std.specs.Prelude.{ℕ, ◌&&◌, nat_le, if◌then◌else◌, List, length, Option, Some, None}
use Rattle.script_reasons.specs.declared.kept.Kept.{Kept}

-- what was read of it, where all of that is kept and it is no more than a script may have
abbrev pub kept_of : {S : Type 0} → Kept S → Option (List ℕ)
kept_of k = if k.whole && nat_le (length k.bytes.items) 1048576 then Some k.bytes.items else None
