use Rattle.rpc_client.proofs.NewSeatsOwnList.{passes_all}
use Rattle.part_rows.proofs.callers.caller_of.Goals as goal

pub returns-clause-go : goal.returns-clause-go
returns-clause-go c = let z = c.args.tables.now.socks.rule.table.shared.table_id in let p = c.args.tables.now.socks.rule.plan in c.new.ensures.go z c.args.tables.now.ids.table.shared.table_id p c.in_ok-seat.ensures c.in_ok-ids.ensures.0 c.in_ok-ids.ensures.1 (passes_all z p 0 c.args.passes.items c.requires.passes)
