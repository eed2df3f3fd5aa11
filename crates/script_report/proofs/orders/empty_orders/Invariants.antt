use Rattle.std.proofs.Common.{◌≡◌, ◌++◌, [], map, drop}
use Rattle.brpc_model.specs.Operations.{link_names}
use Rattle.script_items.specs.LineMeaning.{item}
use Rattle.script_report.proofs.orders.empty_orders.Given as goal

abbrev pub invariant-loop-line : goal.invariant-loop-line
invariant-loop-line l = record {
  rows : map (λ row. row.items) l.orders.items ++ map (λ _. []) (link_names (map item (drop l.line-index l.lines))) ≡ map (λ _. []) (link_names (map item l.lines));
}
