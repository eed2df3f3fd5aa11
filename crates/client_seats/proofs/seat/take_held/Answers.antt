use Rattle.std.proofs.Common.{◌∙◌, ap}
use Rattle.client_seats.specs.ClientSeatState.{lives}
use Rattle.client_seats.proofs.HeldLives.{lives_without}
use Rattle.client_seats.proofs.seat.take_held.Goals as goal

pub returns-clause-rest : goal.returns-clause-rest
returns-clause-rest c = ap lives c.drop_held.ensures.rest ∙ lives_without c.args.name c.args.held.now.items
