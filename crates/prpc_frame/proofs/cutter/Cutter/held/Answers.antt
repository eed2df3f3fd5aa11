use Rattle.std.proofs.Common.{◌∙◌}
use Rattle.prpc_frame.proofs.CutterHoldingByFault.{counted}
use Rattle.prpc_frame.proofs.cutter.Cutter.held.Goals as goal

pub returns : goal.returns
returns c = c.len.ensures ∙ counted c.self.inside.fault c.self.inside.held.items c.self.inside.faulty.list c.args.self.now c.self.view_is c.self.invariant
