use Rattle.std.proofs.Common.{◌∙◌}
use Rattle.client_seats.specs.ClientSeatState.{lives}
use Rattle.client_seats.proofs.HeldLives.{calls, drops, sends}
use Rattle.client_seats.proofs.seat.begin.Goals as goal

pub returns-in_ok-id-in-Drop-clause-some : goal.returns-in_ok-id-in-Drop-clause-some
returns-in_ok-id-in-Drop-clause-some c a sizes held message asked =
    rw (c.in-Drop.is) (drops a c.args.sizes c.args.task.number _ c.in_ok-id-in-Drop.id (lives c.args.held.now.items) c.slot.result c.slot.ensures c.in_ok-id-in-Drop.ensures.id (held ∙ c.in_ok-id-in-Drop.ensures.rest))

pub returns-in-Send-clause-some : goal.returns-in-Send-clause-some
returns-in-Send-clause-some c a sizes held message asked = sends a c.args.sizes c.args.task.number c.in-Send.name c.in-Send.bytes (lives c.args.held.now.items) c.args.task.op sizes held message c.in-Send.is

pub returns-in-Call-clause-some : goal.returns-in-Call-clause-some
returns-in-Call-clause-some c a sizes held message asked = calls a c.args.sizes c.args.task.number c.in-Call.asked (lives c.args.held.now.items) c.args.task.op sizes held asked c.in-Call.is
