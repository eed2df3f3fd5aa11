use Rattle.std.proofs.Common.{◌≡◌, replicate}
use Rattle.machine_tables.proofs.setup.no_nexts.Given as goal

abbrev pub invariant-loop : goal.invariant-loop
invariant-loop l = l.nexts.items ≡ replicate l.counter 0
