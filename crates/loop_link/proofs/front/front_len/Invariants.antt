use Rattle.std.proofs.Common.{◌≤◌, ◌-◌, length}
use Rattle.loop_link.proofs.FrameFrontsBySize.{Fronts}
use Rattle.loop_link.proofs.front.front_len.Given as goal

abbrev pub invariant-loop-left : goal.invariant-loop-left
invariant-loop-left l = record { within : l.at ≤ length l.bytes; few : l.left ≤ l.count; fronts : Fronts l.bytes l.at (l.count - l.left) }

abbrev pub decreases-loop-left : goal.decreases-loop-left
decreases-loop-left l = l.left
