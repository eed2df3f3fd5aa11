use Rattle.std.proofs.Common.{◌≡◌, ◌≤◌, ◌-◌, length, drop}
use Rattle.id_points.specs.IdsAndAttemptNumbers.{id_of}
use Rattle.reader_points.proofs.FirstKept.{kept_of}
use Rattle.reader_points.proofs.keeping.first_kept.Given as goal

-- the first ones are none of the range
abbrev pub invariant-loop-i : goal.invariant-loop-i
invariant-loop-i l = record { within : l.i ≤ length l.kept; same : kept_of (id_of l.id) l.range l.kept ≡ kept_of (id_of l.id) l.range (drop l.i l.kept) }

abbrev pub decreases-loop-i : goal.decreases-loop-i
decreases-loop-i l = length l.kept - l.i
