use Rattle.rpc_client.proofs.NewSeatsOwnList.{new_may, new_own}
use Rattle.call_writes.proofs.TestSeat.{still_may, own_room}
use Rattle.part_rows.proofs.writes.open.Goals as goal

pub returns-clause-may : goal.returns-clause-may
returns-clause-may c = let z = c.args.table.now.rule.table.shared.table_id in let p = c.args.table.now.rule.plan in still_may z p c.args.seat.now _ (new_may z p c.args.seat.now c.requires.seat) c.open_one-outcome.ensures.rest c.open_one-outcome.ensures.refs

pub returns-clause-room : goal.returns-clause-room
returns-clause-room c = let z = c.args.table.now.rule.table.shared.table_id in let p = c.args.table.now.rule.plan in own_room c.args.seat.now.me.0 _ (new_own z p c.args.seat.now c.requires.seat) c.open_one-outcome.ensures.lists
