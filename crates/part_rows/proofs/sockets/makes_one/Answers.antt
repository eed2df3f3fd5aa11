use Rattle.sock_open.proofs.SeatsHoldingNothing.{done_between}
use Rattle.part_rows.proofs.sockets.makes_one.Goals as goal

pub create-requires-clause-seat : goal.create-requires-clause-seat
create-requires-clause-seat c = c.requires.seat.seat

pub create-requires-clause-between : goal.create-requires-clause-between
create-requires-clause-between c = let z = c.args.table.now.rule.table.shared.table_id in let p = c.args.table.now.rule.plan in done_between z p c.args.seat c.requires.seat
