use Rattle.std.proofs.Common.{ℕ, ◌+◌, ◌*◌, ◌<◌, refl, sym, subst, ap, arith}
use Rattle.std.specs.Prelude.{IfOk, IfErr}
use Rattle.seat_programs.specs.declared.task.Op.{Op}
use Rattle.seat_programs.specs.declared.task.Op.TheVariants as ops
use Rattle.sock_rule.specs.declared.homes.Letter.{Letter}
use Rattle.call_errors.specs.ClientBooks.{stand_of}
use Rattle.call_attempts.specs.call_writes.specs.MessageFateBesideCalls.{SentCalling}
use Rattle.call_client.specs.ClientBetweenOperations.{stand, Acted}
use Rattle.call_client.specs.ClientRun.{NotCalled}
use Rattle.call_client.specs.ClientStopsMaking.{NotMade}
use Rattle.call_client.proofs.RunBehindOperation.{ok_then, err_then}
use Rattle.call_client.proofs.ClientAfterOperations.{may_act_now, kept_go, same_passes, same_sent, same_ids, held_go, same_go, held_few, dropped_few}
use Rattle.call_client.proofs.acting.act.Goals as goal

pub open_next-requires-clause-may : goal.open_next-requires-clause-may
open_next-requires-clause-may g c = may_act_now c.args.at.now.tables.now.socks.rule.table.shared.table_id c.args.at.now.tables.now.socks.rule.plan c.args.at.now.tables.now.ids.table.shared.table_id c.args.made c.args.caller.now c.requires.go (omega arith)

pub send_message-requires-clause-may : goal.send_message-requires-clause-may
send_message-requires-clause-may g c = may_act_now c.args.at.now.tables.now.socks.rule.table.shared.table_id c.args.at.now.tables.now.socks.rule.plan c.args.at.now.tables.now.ids.table.shared.table_id c.args.made c.args.caller.now c.requires.go (omega arith)

pub send_message-requires-clause-label : goal.send_message-requires-clause-label
send_message-requires-clause-label g c = subst (λ (m : Letter). m.label.place < 8 * c.args.at.now.tables.now.socks.rule.plan.operations) (sym c.send_letter-msg.ensures) (omega (arith, c.requires.number))

pub begin_call-requires-clause-may : goal.begin_call-requires-clause-may
begin_call-requires-clause-may g c = may_act_now c.args.at.now.tables.now.socks.rule.table.shared.table_id c.args.at.now.tables.now.socks.rule.plan c.args.at.now.tables.now.ids.table.shared.table_id c.args.made c.args.caller.now c.requires.go (omega arith)

pub hold_one-outcome-requires-clause-may : goal.hold_one-outcome-requires-clause-may
hold_one-outcome-requires-clause-may g c = may_act_now c.args.at.now.tables.now.socks.rule.table.shared.table_id c.args.at.now.tables.now.socks.rule.plan c.args.at.now.tables.now.ids.table.shared.table_id c.args.made c.args.caller.now c.requires.go (omega arith)

pub drop_one-outcome-requires-clause-may : goal.drop_one-outcome-requires-clause-may
drop_one-outcome-requires-clause-may g c = may_act_now c.args.at.now.tables.now.socks.rule.table.shared.table_id c.args.at.now.tables.now.socks.rule.plan c.args.at.now.tables.now.ids.table.shared.table_id c.args.made c.args.caller.now c.requires.go (omega arith)

pub fail_one-outcome-requires-clause-may : goal.fail_one-outcome-requires-clause-may
fail_one-outcome-requires-clause-may g c = may_act_now c.args.at.now.tables.now.socks.rule.table.shared.table_id c.args.at.now.tables.now.socks.rule.plan c.args.at.now.tables.now.ids.table.shared.table_id c.args.made c.args.caller.now c.requires.go (omega arith)

pub returns-in-Open-clause-go : goal.returns-in-Open-clause-go
returns-in-Open-clause-go g c = let d = c.open_next.new.caller in let o = c.open_next.ensures.others in kept_go c.args.at.now.tables.now.socks.rule.table.shared.table_id c.args.at.now.tables.now.socks.rule.plan c.args.at.now.tables.now.ids.table.shared.table_id c.args.made (c.args.made + 1) c.args.caller.now d c.requires.go (omega arith) c.open_next.ensures.rest c.open_next.ensures.refs o.0 c.open_next.ensures.passes (same_sent c.args.at.now.tables.now.socks.rule.table.shared.table_id c.args.at.now.tables.now.socks.rule.plan c.args.at.now.tables.now.ids.table.shared.table_id c.args.caller.now d o.3 c.open_next.ensures.lists c.requires.go.own) (same_ids c.args.at.now.tables.now.socks.rule.table.shared.table_id c.args.at.now.tables.now.socks.rule.plan c.args.at.now.tables.now.ids.table.shared.table_id c.args.caller.now d o.2 c.requires.go.ids)

pub returns-in-Send-clause-go : goal.returns-in-Send-clause-go
returns-in-Send-clause-go g c = let d = c.send_message.new.caller in let o = c.send_message.ensures.others in kept_go c.args.at.now.tables.now.socks.rule.table.shared.table_id c.args.at.now.tables.now.socks.rule.plan c.args.at.now.tables.now.ids.table.shared.table_id c.args.made (c.args.made + 1) c.args.caller.now d c.requires.go (omega arith) c.send_message.ensures.rested.rest c.send_message.ensures.rested.refs o.0 (same_passes c.args.at.now.tables.now.socks.rule.table.shared.table_id c.args.at.now.tables.now.socks.rule.plan c.args.at.now.tables.now.ids.table.shared.table_id c.args.caller.now d o.1 c.requires.go.passes) c.send_message.ensures.own c.send_message.ensures.rested.keeps.ids

pub returns-in-Call-clause-go : goal.returns-in-Call-clause-go
returns-in-Call-clause-go g c = let d = c.begin_call.new.caller in let o = c.begin_call.ensures.others in kept_go c.args.at.now.tables.now.socks.rule.table.shared.table_id c.args.at.now.tables.now.socks.rule.plan c.args.at.now.tables.now.ids.table.shared.table_id c.args.made (c.args.made + 1) c.args.caller.now d c.requires.go (omega arith) c.begin_call.ensures.rested.rest c.begin_call.ensures.rested.refs o.0 (same_passes c.args.at.now.tables.now.socks.rule.table.shared.table_id c.args.at.now.tables.now.socks.rule.plan c.args.at.now.tables.now.ids.table.shared.table_id c.args.caller.now d o.1 c.requires.go.passes) c.begin_call.ensures.own c.begin_call.ensures.rested.keeps.ids

pub returns-in-Expire-clause-go : goal.returns-in-Expire-clause-go
returns-in-Expire-clause-go g c = same_go c.args.at.now.tables.now.socks.rule.table.shared.table_id c.args.at.now.tables.now.socks.rule.plan c.args.at.now.tables.now.ids.table.shared.table_id c.args.made (c.args.made + 1) c.args.caller.now (record c.args.caller.now { calls = c.ask_one-outcome.new.calls }) c.requires.go (omega arith) refl refl refl refl c.ask_one-outcome.ensures.keeps.ids

pub returns-in-Join-clause-go : goal.returns-in-Join-clause-go
returns-in-Join-clause-go g c = same_go c.args.at.now.tables.now.socks.rule.table.shared.table_id c.args.at.now.tables.now.socks.rule.plan c.args.at.now.tables.now.ids.table.shared.table_id c.args.made (c.args.made + 1) c.args.caller.now (record c.args.caller.now { calls = c.ask_one-outcome-in-Join.new.calls }) c.requires.go (omega arith) refl refl refl refl c.ask_one-outcome-in-Join.ensures.keeps.ids

pub returns-in-Hold-clause-go : goal.returns-in-Hold-clause-go
returns-in-Hold-clause-go g c = let e = c.hold_one-outcome.ensures in let n = c.hold_one-outcome.new in held_go c.args.at.now.tables.now.socks.rule.table.shared.table_id c.args.at.now.tables.now.socks.rule.plan c.args.at.now.tables.now.ids.table.shared.table_id c.args.made c.args.caller.now (record c.args.caller.now { seat = n.seat; held = n.held }) c.requires.go e.rest e.holder (held_few c.args.at.now.tables.now.socks.rule.plan c.in-Hold.name c.hold_one-outcome.result c.args.caller.now.held.items c.args.caller.now.seat.me.0 n.held.items n.seat.me.0 e.by) refl e.lists refl refl

pub returns-in-Drop-clause-go : goal.returns-in-Drop-clause-go
returns-in-Drop-clause-go g c = let e = c.drop_one-outcome.ensures in let n = c.drop_one-outcome.new in held_go c.args.at.now.tables.now.socks.rule.table.shared.table_id c.args.at.now.tables.now.socks.rule.plan c.args.at.now.tables.now.ids.table.shared.table_id c.args.made c.args.caller.now (record c.args.caller.now { seat = n.seat; held = n.held }) c.requires.go e.rest e.holder (dropped_few c.in-Drop.name c.drop_one-outcome.result c.args.caller.now.held.items c.args.caller.now.seat.me.0 n.held.items n.seat.me.0 e.by) refl e.lists refl refl

pub returns-in-Fail-clause-go : goal.returns-in-Fail-clause-go
returns-in-Fail-clause-go g c = let e = c.fail_one-outcome.ensures in let n = c.fail_one-outcome.new in let d = record c.args.caller.now { seat = n.seat } in kept_go c.args.at.now.tables.now.socks.rule.table.shared.table_id c.args.at.now.tables.now.socks.rule.plan c.args.at.now.tables.now.ids.table.shared.table_id c.args.made (c.args.made + 1) c.args.caller.now d c.requires.go (omega arith) e.rest e.refs refl c.requires.go.passes (same_sent c.args.at.now.tables.now.socks.rule.table.shared.table_id c.args.at.now.tables.now.socks.rule.plan c.args.at.now.tables.now.ids.table.shared.table_id c.args.caller.now d refl e.lists c.requires.go.own) c.requires.go.ids

pub returns-in-Send-clause-acted : goal.returns-in-Send-clause-acted
returns-in-Send-clause-acted g c = let o = c.send_message.ensures.others in rw c.in-Send.is (
  subst (λ (m : Letter). SentCalling g.O.Out.state c.args.at.now.tables.now.socks.rule.plan c.args.at.now.tables.now.ids.plan.slots c.in-Send.name m c.send_message.result c.args.caller.now.seat.me.0 (stand_of c.args.caller.now.calls) c.send_message.new.caller.seat.me.0 (stand_of c.send_message.new.caller.calls)) c.send_letter-msg.ensures c.send_message.ensures.by,
  record { held = ap (λ v. v.items) o.0; passes = ap (λ v. v.items) o.1 },
)

pub returns-in-Call-clause-acted : goal.returns-in-Call-clause-acted
returns-in-Call-clause-acted g c = subst (λ (x : Op). IfOk c.begin_call.result (λ o. Acted g.O.Out.state c.args.at.now.tables.now.socks.rule.plan c.args.at.now.tables.now.ids.plan c.args.number x o (stand c.args.caller.now) (stand c.begin_call.new.caller))) (sym c.in-Call.is)
    (ok_then c.begin_call.result (λ o. (number : ℕ) → Acted g.O.Out.state c.args.at.now.tables.now.socks.rule.plan c.args.at.now.tables.now.ids.plan number (ops.Call c.in-Call.call) o (stand c.args.caller.now) (stand c.begin_call.new.caller)) (λ o. Acted g.O.Out.state c.args.at.now.tables.now.socks.rule.plan c.args.at.now.tables.now.ids.plan c.args.number (ops.Call c.in-Call.call) o (stand c.args.caller.now) (stand c.begin_call.new.caller)) (λ o k. k c.args.number) c.begin_call.ensures.called)

pub returns-in-Call-clause-not_made : goal.returns-in-Call-clause-not_made
returns-in-Call-clause-not_made g c = subst (λ (x : Op). IfErr c.begin_call.result (λ _. NotMade g.O.Out.state c.args.at.now.tables.now.socks.rule.plan c.args.at.now.tables.now.ids.plan x (stand c.args.caller.now) (stand c.begin_call.new.caller))) (sym c.in-Call.is)
    (err_then c.begin_call.result (λ _. NotCalled g.O.Out.state c.args.at.now.tables.now.socks.rule.plan c.args.at.now.tables.now.ids.plan c.in-Call.call (stand c.args.caller.now) (stand c.begin_call.new.caller)) (λ _. NotMade g.O.Out.state c.args.at.now.tables.now.socks.rule.plan c.args.at.now.tables.now.ids.plan (ops.Call c.in-Call.call) (stand c.args.caller.now) (stand c.begin_call.new.caller)) (λ _ k. (k, record { held = ap (λ v. v.items) c.begin_call.ensures.others.0; passes = ap (λ v. v.items) c.begin_call.ensures.others.1 })) c.begin_call.ensures.not_called)
