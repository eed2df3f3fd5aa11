use Rattle.prpc_frame.proofs.FrontFramePlace.{lies_in_front, leads_on}
use Rattle.prpc_frame.proofs.cutter.Cutter.front.Goals as goal

pub returns-clause-exact : goal.returns-clause-exact
returns-clause-exact c =
    lies_in_front c.read_front.result c.self.inside.fault c.self.inside.held.items c.self.inside.faulty.list c.first_bytes.result.now c.args.self.now c.self.view_is c.self.invariant c.first_bytes.ensures c.read_front.ensures

pub returns-clause-stream : goal.returns-clause-stream
returns-clause-stream c =
    leads_on c.read_front.result c.args.self.now
    (lies_in_front c.read_front.result c.self.inside.fault c.self.inside.held.items c.self.inside.faulty.list c.first_bytes.result.now c.args.self.now c.self.view_is c.self.invariant c.first_bytes.ensures c.read_front.ensures)
