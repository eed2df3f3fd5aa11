use Rattle.std.proofs.Common.{◌≡◌, ◌∙◌, [], false, sym, subst, refl}
use Rattle.std.specs.Prelude.{IfOk}
use Rattle.corr_id.specs.IdTableSeat.{Stays}
use Rattle.rpc_client.specs.HoldAndDropOutcomes.{IsHolder}
use Rattle.rpc_client.proofs.CountedReferences.{holder_same}
use Rattle.call_errors.specs.ClientBooks.{HasNoLock}
use Rattle.call_errors.proofs.KeepingThroughErrors.{stays_then}
use Rattle.call_client.specs.ClientBetweenOperations.{stand}
use Rattle.call_client.proofs.RunBehindOperation.{ended_then, left_behind}
use Rattle.call_client.proofs.Shares.{run_share}
use Rattle.call_client.proofs.caller.Caller.run.Goals as goal

pub give_all-requires-clause-holder : goal.give_all-requires-clause-holder
give_all-requires-clause-holder g c = let p = c.args.tables.now.socks.rule.plan in let made = c.make_all-made.new.caller in subst (λ h. IsHolder p h.items c.leave_all.new.caller.seat.me.0) (sym c.leave_all.ensures.others.0) (holder_same p made.held.items made.seat.me.0 c.make_all-made.ensures.go.holder c.leave_all.new.caller.seat.me.0 c.leave_all.ensures.refs)

pub returns-clause-ids : goal.returns-clause-ids
returns-clause-ids g c = subst (λ k. HasNoLock c.args.tables.now.ids.table.shared.table_id k) (sym c.leave_all.ensures.others.2) c.end_retries.ensures.keeps.ids

pub returns-clause-same : goal.returns-clause-same
returns-clause-same g c = let b = c.args.self.now.calls.seat in
    subst (λ k. Stays b k.seat) (sym c.leave_all.ensures.others.2) (stays_then b c.make_all-made.new.caller.calls.seat c.end_retries.new.calls.seat c.make_all-made.ensures.same c.end_retries.ensures.keeps.stays)

pub returns-clause-empty : goal.returns-clause-empty
returns-clause-empty g c = let m = c.make_all-made in let is = c.is_err.ensures.value in
    let k = ended_then g.O.Out.state c.args.tables.now.socks.rule.plan c.args.tables.now.ids.plan c.args.tasks.items m.result m.new.tasks.items c.args.self.now m.new.caller c.end_retries.new.calls m.ensures.all m.ensures.short (λ e. c.end_retries.ensures.ended (is ∙ e)) (λ e. c.end_retries.ensures.same (is ∙ e)) in
    (c.give_all.ensures.none_.0, c.leave_all.ensures.passes, subst (λ k. k.retries.items ≡ []) (sym c.leave_all.ensures.others.2) k.none_waits)

pub returns-clause-fed : goal.returns-clause-fed
returns-clause-fed g c = let m = c.make_all-made in let is = c.is_err.ensures.value in
    let k = ended_then g.O.Out.state c.args.tables.now.socks.rule.plan c.args.tables.now.ids.plan c.args.tasks.items m.result m.new.tasks.items c.args.self.now m.new.caller c.end_retries.new.calls m.ensures.all m.ensures.short (λ e. c.end_retries.ensures.ended (is ∙ e)) (λ e. c.end_retries.ensures.same (is ∙ e)) in
    subst (λ y. IfOk m.result (λ _. y.starved ≡ false)) (sym c.leave_all.ensures.others.2) k.fed

pub returns-clause-ran : goal.returns-clause-ran
returns-clause-ran g c = let m = c.make_all-made in let is = c.is_err.ensures.value in
    let k = ended_then g.O.Out.state c.args.tables.now.socks.rule.plan c.args.tables.now.ids.plan c.args.tasks.items m.result m.new.tasks.items c.args.self.now m.new.caller c.end_retries.new.calls m.ensures.all m.ensures.short (λ e. c.end_retries.ensures.ended (is ∙ e)) (λ e. c.end_retries.ensures.same (is ∙ e)) in
    let x = k.by in record {
      made = x.made;
      few = x.few;
      came = x.came;
      ran = x.ran;
      told = c.leave_all.ensures.others.1 ∙ x.told;
      last = stand (record m.new.caller { calls = c.end_retries.new.calls });
      ends = x.ends;
      end = stand c.leave_all.new.caller;
      left = left_behind g.O.Out.state c.args.tables.now.socks.rule.plan c.args.tables.now.ids.plan c.args.tasks.items x.made m.new.tasks.items (stand (record m.new.caller { calls = c.end_retries.new.calls })) (stand c.leave_all.new.caller) x.left c.leave_all.ensures.left;
      given = c.give_all.ensures.given;
      calls = refl;
    }

pub returns-clause-id_share : goal.returns-clause-id_share
returns-clause-id_share g c = run_share c.args.self.now (record c.leave_all.new.caller { seat = c.give_all.new.seat; held = c.give_all.new.held }) (returns-clause-ran g c)
