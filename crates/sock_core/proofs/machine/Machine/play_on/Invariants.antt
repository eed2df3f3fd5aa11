use Rattle.std.proofs.Common.{◌≡◌}
use Rattle.sock_core.proofs.Rounding.{PlayedSoFar}
use Rattle.sock_core.proofs.machine.Machine.play_on.Given as goal

-- so many rounds were made, in each of which something moved
abbrev pub invariant-loop : goal.invariant-loop
invariant-loop g l = record {
  so_far : PlayedSoFar l.fn.self l.self l.counter;
  says : g.L.Linker.state l.links ≡ g.L.Linker.state l.fn.links;
}
