use Rattle.std.proofs.Common.{◌≡◌, drop}
use Rattle.seat_programs.specs.ClientProgram.{held_under}
use Rattle.client_seats.specs.ClientSeatState.{lives}
use Rattle.client_seats.proofs.seat.find_held.Given as goal

-- it isn't among those that were looked at
abbrev pub invariant-loop-life : goal.invariant-loop-life
invariant-loop-life l = held_under l.name (lives (drop l.life-index l.held)) ≡ held_under l.name (lives l.held)
