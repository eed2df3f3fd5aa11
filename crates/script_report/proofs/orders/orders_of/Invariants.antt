use Rattle.std.proofs.Common.{◌≡◌, length, map}
use Rattle.brpc_model.specs.Operations.{link_names}
use Rattle.brpc_model.specs.PlaceWords.{ArePlaces}
use Rattle.script_items.specs.LineMeaning.{item}
use Rattle.script_report.specs.OrderRows.{AreRows}
use Rattle.script_report.proofs.orders.orders_of.Given as goal

abbrev pub invariant-loop-word : goal.invariant-loop-word
invariant-loop-word l = record {
  at : l.number ≡ l.word-index;
  links : length (map (λ row. row.items) l.orders.items) ≡ length (link_names (map item l.lines));
  rows : ArePlaces l.words → AreRows l.words l.number (map (λ row. row.items) l.orders.items);
}
