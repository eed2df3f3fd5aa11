use Rattle.std.proofs.Common.{refl, arith}
use Rattle.call_errors.specs.rpc_client.proofs.FindingReferences.{rest_same, may_still}
use Rattle.call_errors.specs.rpc_client.proofs.SeatBehindDelivering.{room_still}
use Rattle.call_errors.proofs.KeepingThroughErrors.{keeps_none}
use Rattle.call_attempts.specs.ClientAtBothTables.{both}
use Rattle.call_attempts.specs.WaitingRetries.{stray, unopened, to_socket}
use Rattle.call_attempts.proofs.LeftByAttempt.{found_keeps, keeps_leaves, own_after, own_keeps, none_keeps, rested_still, rested_found, rested_then}
use Rattle.call_attempts.proofs.call_tables.CallTables.go_to.Goals as goal

pub attempt-requires : goal.attempt-requires
attempt-requires g c = let z = c.args.self.now.tables.now.socks.rule.table.shared.table_id in let p = c.args.self.now.tables.now.socks.rule.plan in let e = c.find.ensures in let k = found_keeps p c.args.name c.find.result c.args.seat.now.me.0 c.find.new.seat.me.0 e.found in let has = c.is_stray.ensures.at_home c.if-is_stray.false in record {
  may = may_still z p c.args.seat.now c.find.new.seat c.requires.may (rest_same z p c.args.seat.now c.find.new.seat c.requires.may.idle e.seat e.slots (e.between c.requires.may.idle.between) e.same).idle k.refs;
  known = c.in-Some.ensures.found.0;
  room = room_still c.args.seat.now.me.0 c.find.new.seat.me.0 k.lists c.requires.room;
  ids = c.requires.ids;
  operation = has.2;
  id = c.requires.id;
  label = omega (arith, c.requires.place, c.args.msg.numbered, has.1);
}

pub find-requires-clause-name : goal.find-requires-clause-name
find-requires-clause-name g c = (c.is_stray.ensures.at_home c.if-is_stray.false).0

pub returns-then-is_stray-clause-by : goal.returns-then-is_stray-clause-by
returns-then-is_stray-clause-by g c = stray (c.is_stray.ensures.stray c.if-is_stray.true) refl c.post_for.ensures.posted

pub returns-then-is_stray-clause-rested : goal.returns-then-is_stray-clause-rested
returns-then-is_stray-clause-rested g c = let z = c.args.self.now.tables.now.socks.rule.table.shared.table_id in let p = c.args.self.now.tables.now.socks.rule.plan in let y = c.args.self.now.tables.now.ids.table.shared.table_id in rested_still z p y c.args.seat.now c.args.calls.now c.post_for.new.calls c.requires.may c.post_for.ensures.keeps

pub returns-then-is_stray-clause-own : goal.returns-then-is_stray-clause-own
returns-then-is_stray-clause-own g c = own_after c.args.seat.now.me.0 c.args.seat.now.me.0 (keeps_leaves c.args.seat.now.me.0 c.args.seat.now.me.0 (none_keeps c.args.seat.now.me.0))

pub returns-in-Some-clause-by : goal.returns-in-Some-clause-by
returns-in-Some-clause-by g c = to_socket c.in-Some.socket (both c.find.new.seat.me.0 c.args.calls.now) c.in-Some.ensures.found refl c.attempt.ensures.by

pub returns-in-Some-clause-rested : goal.returns-in-Some-clause-rested
returns-in-Some-clause-rested g c = let z = c.args.self.now.tables.now.socks.rule.table.shared.table_id in let p = c.args.self.now.tables.now.socks.rule.plan in let y = c.args.self.now.tables.now.ids.table.shared.table_id in let e = c.find.ensures in
    rested_then z p y c.args.seat.now c.find.new.seat c.attempt.new.seat c.args.calls.now c.args.calls.now c.args.calls.now c.attempt.new.calls
    (rested_found z p y c.args.seat.now c.find.new.seat c.args.calls.now c.args.calls.now c.requires.may e.seat e.slots e.between e.same (found_keeps p c.args.name c.find.result c.args.seat.now.me.0 c.find.new.seat.me.0 e.found) (keeps_none y c.args.calls.now c.requires.ids)) c.attempt.ensures.rested refl

pub returns-in-Some-clause-own : goal.returns-in-Some-clause-own
returns-in-Some-clause-own g c = λ n o. c.attempt.ensures.own n (own_keeps n c.args.seat.now.me.0 c.find.new.seat.me.0 (found_keeps c.args.self.now.tables.now.socks.rule.plan c.args.name c.find.result c.args.seat.now.me.0 c.find.new.seat.me.0 c.find.ensures.found) o)

pub returns-in-None-clause-by : goal.returns-in-None-clause-by
returns-in-None-clause-by g c = unopened c.in-None.ensures.found c.post_for-in-None.ensures.posted

pub returns-in-None-clause-rested : goal.returns-in-None-clause-rested
returns-in-None-clause-rested g c = let z = c.args.self.now.tables.now.socks.rule.table.shared.table_id in let p = c.args.self.now.tables.now.socks.rule.plan in let y = c.args.self.now.tables.now.ids.table.shared.table_id in let e = c.find.ensures in
    rested_found z p y c.args.seat.now c.find.new.seat c.args.calls.now c.post_for-in-None.new.calls c.requires.may e.seat e.slots e.between e.same (found_keeps p c.args.name c.find.result c.args.seat.now.me.0 c.find.new.seat.me.0 e.found) c.post_for-in-None.ensures.keeps

pub returns-in-None-clause-own : goal.returns-in-None-clause-own
returns-in-None-clause-own g c = own_after c.args.seat.now.me.0 c.find.new.seat.me.0 (keeps_leaves c.args.seat.now.me.0 c.find.new.seat.me.0 (found_keeps c.args.self.now.tables.now.socks.rule.plan c.args.name c.find.result c.args.seat.now.me.0 c.find.new.seat.me.0 c.find.ensures.found))
