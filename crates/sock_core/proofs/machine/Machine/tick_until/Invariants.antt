use Rattle.std.proofs.Common.{◌≡◌}
use Rattle.sock_core.proofs.MachineBeforeEnding.{PassedSoFar}
use Rattle.sock_core.proofs.machine.Machine.tick_until.Given as goal

-- so many ticks were steps of other kinds
abbrev pub invariant-loop : goal.invariant-loop
invariant-loop g l = record {
  so_far : PassedSoFar l.fn.self l.self l.fn.seat l.fn.kind l.counter;
  says : g.L.Linker.state l.links ≡ g.L.Linker.state l.fn.links;
}
