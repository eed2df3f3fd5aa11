use Rattle.std.proofs.Common.{◌≡◌, ◌++◌, drop}
use Rattle.script_report.specs.ReportLines.{labels_text}
use Rattle.script_report.proofs.links.push_labels.Given as goal

abbrev pub invariant-loop-accepted : goal.invariant-loop-accepted
invariant-loop-accepted l = record {
  text : l.text.items ++ labels_text l.places (drop l.accepted-index l.order) ≡ l.initial.text.items ++ labels_text l.places l.order;
}
