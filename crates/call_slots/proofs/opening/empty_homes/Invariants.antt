use Rattle.std.proofs.Common.{◌≡◌, replicate, None}
use Rattle.call_slots.proofs.opening.empty_homes.Given as goal

abbrev pub invariant-loop : goal.invariant-loop
invariant-loop l = l.homes.items ≡ replicate l.counter None
