use Rattle.std.proofs.Common.{◌≡◌, ◌++◌, drop}
use Rattle.script_report.specs.ReportLines.{outcome_text_lines}
use Rattle.brpc_model.specs.PlaceWords.{HasEachOutcome, outcomes_from}
use Rattle.script_report.proofs.told.push_told.Given as goal

abbrev pub invariant-loop-outcome : goal.invariant-loop-outcome
invariant-loop-outcome l = record {
  at : l.operation ≡ l.outcome-index;
  text : HasEachOutcome l.words l.said → l.text.items ++ outcome_text_lines (drop l.operation l.operations) (outcomes_from l.words l.operation (drop l.outcome-index l.said))
      ≡ l.initial.text.items ++ outcome_text_lines l.operations (outcomes_from l.words 0 l.said);
}
