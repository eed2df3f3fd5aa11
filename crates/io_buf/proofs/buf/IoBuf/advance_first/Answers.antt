use Rattle.io_buf.proofs.ReferenceSizesAtEnds.{dropped_first}
use Rattle.io_buf.proofs.buf.IoBuf.advance_first.Goals as goal

pub returns-clause-sizes : goal.returns-clause-sizes
returns-clause-sizes c = dropped_first c.args.self.now c.pop_piece.new.self c.in-Some.first c.in-Some.ensures.0.0 c.in-Some.ensures.1
