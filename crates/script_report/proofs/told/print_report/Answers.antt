use Rattle.std.proofs.Common.{◌∙◌, ap, map}
use Rattle.std.proofs.lemmas.List.{length-map}
use Rattle.script_items.specs.LineMeaning.{item}
use Rattle.script_report.proofs.ReportedOrders.{report_of_orders}
use Rattle.script_report.proofs.told.print_report.Goals as goal

pub returns : goal.returns
returns c = λ places has. report_of_orders (map item c.args.lines.now) c.args.said.now c.args.words.now (map (λ bytes. bytes.now) c.args.took.now) (map (λ row. row.items) c.in_ok-orders.orders.items) _ _ _ _ _ _ _ places
    (length-map c.in_ok-orders.orders.items (λ row. row.items) ∙ c.in_ok-orders.ensures.links) (c.in_ok-orders.ensures.rows places)
    (c.deref.ensures.value ∙ c.in_ok-operations.ensures) (c.deref-2.ensures.value ∙ c.in_ok-operations.ensures) (ap (map (λ row. row.items)) c.deref-3.ensures.value)
    c.in_ok-text.ensures.items (c.in_ok-push_told.ensures has) c.in_ok-push_rows.ensures c.in_ok-extend_from_slice.ensures.items
