use Rattle.sock_core.proofs.Rounding.{FirstSoFar}
use Rattle.sock_core.proofs.machine.Machine.run_first.Given as goal

-- so many steps were made
abbrev pub invariant-loop : goal.invariant-loop
invariant-loop g l = FirstSoFar l.fn.self l.self l.counter
