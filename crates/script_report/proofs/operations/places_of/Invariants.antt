use Rattle.std.proofs.Common.{◌≡◌, ◌≤◌, ◌+◌, ◌++◌, map, drop}
use Rattle.brpc_model.specs.Operations.{operations, operations_from}
use Rattle.script_items.specs.LineMeaning.{item}
use Rattle.script_report.specs.ReportLines.{place_of}
use Rattle.script_report.proofs.operations.places_of.Given as goal

abbrev pub invariant-loop-line : goal.invariant-loop-line
invariant-loop-line l = record {
  client : l.client ≤ l.line-index;
  number : l.number ≤ l.line-index + 1;
  places : l.places.items ++ map place_of (operations_from l.client l.number (map item (drop l.line-index l.lines))) ≡ map place_of (operations (map item l.lines));
}
