use Rattle.std.proofs.Common.{◌≤◌, ◌-◌, ◌++◌, ◌≡◌}
use Rattle.seat_programs.specs.ScheduledRuns.{from_to}
use Rattle.machine_model.specs.Machines.{READERS}
use Rattle.sock_core.proofs.Rounding.{RoundSoFar}
use Rattle.sock_core.proofs.machine.Machine.round.Given as goal

-- the clients before this one were ticked
abbrev pub invariant-loop-seat : goal.invariant-loop-seat
invariant-loop-seat g l = record {
  so_far : RoundSoFar l.fn.self l.self (from_to 1 (l.seat - 1)) l.moved;
  inside : l.seat ≤ l.fn.self.plan.seats;
  says : g.L.Linker.state l.links ≡ g.L.Linker.state l.fn.links;
}

-- the clients were, and the readers before this one
abbrev pub invariant-loop-link : goal.invariant-loop-link
invariant-loop-link g l = record {
  so_far : RoundSoFar l.fn.self l.self (from_to 1 (l.fn.self.plan.seats - 1) ++ from_to READERS l.link) l.moved;
  inside : l.link ≤ l.fn.self.plan.links;
  says : g.L.Linker.state l.links ≡ g.L.Linker.state l.fn.links;
}
