use Rattle.std.proofs.Common.{◌≡◌, ◌≤◌, ◌++◌, map, drop}
use Rattle.brpc_model.specs.Operations.{link_names}
use Rattle.script_items.specs.LineMeaning.{item}
use Rattle.script_report.specs.OrderRows.{rows_text}
use Rattle.script_report.proofs.told.push_rows.Given as goal

abbrev pub invariant-loop-line : goal.invariant-loop-line
invariant-loop-line l = record {
  link : l.link ≤ l.line-index;
  text : l.text.items ++ rows_text l.operations l.words (map (λ row. row.items) l.orders) (map (λ bytes. bytes.now) l.took) l.link (link_names (map item (drop l.line-index l.lines)))
      ≡ l.initial.text.items ++ rows_text l.operations l.words (map (λ row. row.items) l.orders) (map (λ bytes. bytes.now) l.took) 0 (link_names (map item l.lines));
}
