use Rattle.std.proofs.Common.{arith}
use Rattle.client_seats.proofs.HeldLives.{gives_oldest}
use Rattle.client_seats.proofs.seat.give_back.Goals as goal

pub returns : goal.returns
returns c a on are = gives_oldest a c.args.held.now.items c.remove-oldest.result c.slot.result c.remove-oldest.new.self.items c.slot.ensures c.remove-oldest.ensures.value (omega arith) c.remove-oldest.ensures.items on are
