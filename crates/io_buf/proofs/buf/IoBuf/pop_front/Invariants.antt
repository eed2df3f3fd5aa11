use Rattle.std.proofs.Common.{length}
use Rattle.io_buf.proofs.BufferFronts.{LosesFront}
use Rattle.io_buf.proofs.buf.IoBuf.pop_front.Given as goal

abbrev pub invariant-loop-self : goal.invariant-loop-self
invariant-loop-self l = LosesFront l.keep l.fn.self l.self

abbrev pub decreases-loop-self : goal.decreases-loop-self
decreases-loop-self l = length l.self.items
