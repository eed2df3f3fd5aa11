use Rattle.std.proofs.Common.{◌≡◌, None, replicate}
use Rattle.script_report.proofs.outcomes.untold.Given as goal

abbrev pub invariant-loop : goal.invariant-loop
invariant-loop l = record {
  said : l.said.items ≡ replicate l.counter None;
}
