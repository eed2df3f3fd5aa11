use Rattle.io_buf.proofs.ReferenceSizesAtEnds.{dropped_last}
use Rattle.io_buf.proofs.buf.IoBuf.retreat_last.Goals as goal

pub returns-else-n-len-clause-sizes : goal.returns-else-n-len-clause-sizes
returns-else-n-len-clause-sizes c = dropped_last c.args.self.now c.pop_last_piece.new.self c.in-Some.last c.in-Some.ensures.1
