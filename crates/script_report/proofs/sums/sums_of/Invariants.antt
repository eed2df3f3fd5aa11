use Rattle.std.proofs.Common.{◌≡◌, ◌≤◌, map, drop}
use Rattle.brpc_model.specs.PlaceWords.{HasEachOutcome, outcomes_from}
use Rattle.script_items.specs.LineMeaning.{item}
use Rattle.script_report.specs.RunSummary.{AreFew, together, told_of, sums_of}
use Rattle.script_report.proofs.Summed.{sums_behind}
use Rattle.script_report.proofs.sums.sums_of.Given as goal

abbrev pub invariant-loop-line : goal.invariant-loop-line
invariant-loop-line l = record {
  operation : l.operation ≤ l.line-index;
  few : AreFew l.operation l.sums;
  sums : HasEachOutcome l.words l.said → together l.sums (sums_behind (map item (drop l.line-index l.lines)) (outcomes_from l.words l.operation (drop l.operation l.said)))
      ≡ sums_of (told_of (map item l.lines) (outcomes_from l.words 0 l.said));
}
