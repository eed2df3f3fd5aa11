use Rattle.sock_open.proofs.Racing.{three_done, three_share}
use Rattle.part_rows.proofs.sockets.three.Goals as goal

pub returns-clause-done : goal.returns-clause-done
returns-clause-done c = let z = c.args.table.now.rule.table.shared.table_id in let p = c.args.table.now.rule.plan in three_done z p c.args.one c.args.two c.args.other _ c.in-Ok.ensures.items c.requires.one c.requires.two c.requires.other

pub returns-clause-share : goal.returns-clause-share
returns-clause-share c = let z = c.args.table.now.rule.table.shared.table_id in let p = c.args.table.now.rule.plan in three_share z p c.args.one c.args.two c.args.other _ c.in-Ok.ensures.items
