use Rattle.sock_io.specs.ShapeOfPuts.{shaped_out}
use Rattle.ring_link.proofs.RingEndFindings.{settled_still}
use Rattle.outside_rows.proofs.between.NotedLinkerLinker.settle.Goals as goal

pub returns-clause-settled : goal.returns-clause-settled
returns-clause-settled g c = settled_still (shaped_out c.args._ends.now.out) c.args._ends.now.inn.half
