use Rattle.std.proofs.Common.{◌≤◌, length}
use Rattle.io_buf.proofs.refs.recycle_rest.Given as goal

abbrev pub invariant-loop-piece : goal.invariant-loop-piece
invariant-loop-piece l = l.fn.pool ≤ l.pool

abbrev pub decreases-loop-piece : goal.decreases-loop-piece
decreases-loop-piece l = length l.rest.items
