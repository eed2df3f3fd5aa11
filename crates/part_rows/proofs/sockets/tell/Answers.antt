use Rattle.sock_open.proofs.SeatsHoldingNothing.{done_between, kept_done}
use Rattle.sock_open.proofs.Racing.{stored_done, stored_known, told_known}
use Rattle.part_rows.proofs.sockets.tell.Goals as goal

pub publish-requires-clause-seat : goal.publish-requires-clause-seat
publish-requires-clause-seat c = c.requires.from.seat

pub find-requires-clause-seat : goal.find-requires-clause-seat
find-requires-clause-seat c = c.requires.to.seat

pub returns-clause-from : goal.returns-clause-from
returns-clause-from c = let z = c.args.table.now.rule.table.shared.table_id in let p = c.args.table.now.rule.plan in stored_done z p _ _ c.args.from.now c.publish.new.seat c.requires.from c.publish.ensures.seat c.publish.ensures.published c.publish.ensures.between c.publish.ensures.same

pub returns-clause-to : goal.returns-clause-to
returns-clause-to c = let z = c.args.table.now.rule.table.shared.table_id in let p = c.args.table.now.rule.plan in kept_done z p c.args.to.now c.find.new.seat c.requires.to c.find.ensures.seat c.find.ensures.slots (c.find.ensures.between (done_between z p c.args.to.now c.requires.to)) c.find.ensures.same

pub returns-clause-share : goal.returns-clause-share
returns-clause-share c = (c.publish.ensures.same.share, c.find.ensures.same.share)

pub returns-clause-told : goal.returns-clause-told
returns-clause-told c = told_known c.args.table.now.rule.plan 0 c.find.result _ _ c.find.ensures.found

pub returns-clause-known : goal.returns-clause-known
returns-clause-known c = let z = c.args.table.now.rule.table.shared.table_id in let p = c.args.table.now.rule.plan in stored_known z p _ _ c.args.id.0 c.args.from.now c.publish.new.seat c.publish.ensures.published c.requires.known
