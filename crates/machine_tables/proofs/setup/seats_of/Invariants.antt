use Rattle.std.proofs.Common.{◌≡◌, map}
use Rattle.seat_programs.specs.ScriptSetupToEnding.{programs}
use Rattle.client_seats.specs.ClientSeatState.{seat_data}
use Rattle.machine_model.specs.MachineParts.{AreBegun, said_first}
use Rattle.machine_tables.proofs.setup.seats_of.Given as goal

-- the seats of the clients so far
abbrev pub invariant-loop-tasks : goal.invariant-loop-tasks
invariant-loop-tasks l = record {
  seats : AreBegun l.sizes (map seat_data l.seats.items) (map (λ tasks. tasks.items) l.yielded);
  told : l.outcomes ≡ said_first l.fn.outcomes (programs l.sizes (map (λ tasks. tasks.items) l.yielded));
}
