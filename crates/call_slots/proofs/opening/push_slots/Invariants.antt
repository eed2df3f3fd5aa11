use Rattle.std.proofs.Common.{◌≡◌, ◌++◌}
use Rattle.seat_programs.specs.ScriptSetupToEnding.{opening_ids}
use Rattle.call_slots.proofs.opening.push_slots.Given as goal

abbrev pub invariant-loop : goal.invariant-loop
invariant-loop l = l.words.items ≡ l.fn.words.items ++ opening_ids l.counter
