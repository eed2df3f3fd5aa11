use Rattle.std.proofs.Common.{◌≡◌, ◌++◌}
use Rattle.seat_programs.specs.ScriptSetupToEnding.{free_slots}
use Rattle.machine_tables.proofs.setup.push_slots.Given as goal

abbrev pub invariant-loop : goal.invariant-loop
invariant-loop l = l.words.items ≡ l.fn.words.items ++ free_slots l.first l.counter
