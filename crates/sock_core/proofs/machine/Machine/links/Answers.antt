use Rattle.std.proofs.Common.{arith}
use Rattle.std.proofs.Props.{props}
use Rattle.std.proofs.Math.Logic.{∥∥₁_elim}
use Rattle.sock_core.proofs.machine.Machine.links.Goals as goal

pub returns-clause-few : goal.returns-clause-few
returns-clause-few g c = ∥∥₁_elim c.self.invariant.0.sizes (hlevel props) (λ h. let a = h.few_readers in let b = h.readers_are in let e = c.link_count.ensures in omega (arith, a, b, e))
