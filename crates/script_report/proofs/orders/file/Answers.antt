use Rattle.std.proofs.Common.{arith}
use Rattle.std.proofs.lemmas.Result.{on_ok_weaker}
use Rattle.script_report.proofs.ReportLinesByPlaces.{got}
use Rattle.script_report.proofs.OrderRows.{filed_in, filed_nowhere}
use Rattle.script_report.proofs.orders.file.Goals as goal

pub returns-in-Some : goal.returns-in-Some
returns-in-Some c = let item = c.in-Some.ensures.item.3 in
    on_ok_weaker c.put_at.result (λ put. filed_in (λ row. row.items) c.args.word.0 c.args.label c.args.orders.now.items c.from.result c.position.result c.in-Some.order.now c.put_at.new.order (grind arith)
    (grind arith) c.position.ensures (got c.args.orders.now.items c.from.result c.in-Some.order.now item.0 item.1) put) c.put_at.ensures

pub returns-in-None : goal.returns-in-None
returns-in-None c = filed_nowhere (λ row. row.items) c.args.word.0 c.args.label c.args.orders.now.items c.from.result (grind arith) c.in-None.ensures.item.3
