use Rattle.std.proofs.Common.{ap, arith}
use Rattle.prpc_frame.specs.HeldByCutter.{Held}
use Rattle.prpc_frame.proofs.CutterHoldingByFault.{counted}
use Rattle.prpc_frame.proofs.FrontFramePlace.{skipped, still_noted}
use Rattle.prpc_frame.proofs.cutter.Cutter.skip.Goals as goal

pub pop_front-requires : goal.pop_front-requires
pop_front-requires c = omega (arith, c.requires, counted c.self.inside.fault c.self.inside.held.items c.self.inside.faulty.list c.args.self.now c.self.view_is c.self.invariant)

pub invariant_of-self : goal.invariant_of-self
invariant_of-self c = still_noted c.self.inside.fault c.self.inside.held.items c.self.inside.faulty.list c.pop_front.new.self.items c.args.size c.self.invariant c.pop_front.ensures.items

pub returns-clause-bytes : goal.returns-clause-bytes
returns-clause-bytes c =
    skipped c.self.inside.fault c.self.inside.held.items c.self.inside.faulty.list c.pop_front.new.self.items c.args.self.now c.args.size c.self.view_is c.self.invariant c.requires c.pop_front.ensures.items

pub returns-clause-told : goal.returns-clause-told
returns-clause-told c = ap (λ (h : Held). h.told) c.self.view_is
