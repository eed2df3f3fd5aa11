use Rattle.std.proofs.Common.{◌+◌}
use Rattle.call_errors.specs.rpc_client.proofs.FindingReferences.{may_still}
use Rattle.call_errors.specs.ClientBooks.{books_of}
use Rattle.call_errors.proofs.KeepingThroughErrors.{keeps_none}
use Rattle.call_attempts.specs.ClientAtBothTables.{both}
use Rattle.call_attempts.specs.WaitingRetries.{none_yet, RanOut}
use Rattle.call_attempts.proofs.LeftByAttempt.{err_by, rested_still, rested_same, rested_then, keeps_same, own_room, none_taken, one_taken, ends_fed, made_one, gave_out, wanting_before}
use Rattle.call_attempts.proofs.call_tables.CallTables.retry_all.Goals as goal

pub retries-init : goal.retries-init
retries-init g c = let y = c.args.self.now.tables.now.ids.table.shared.table_id in record {
  can_go = tt;
  is_finite = tt;
  rested = rested_still c.args.self.now.tables.now.socks.rule.table.shared.table_id c.args.self.now.tables.now.socks.rule.plan y c.args.seat.now c.args.calls.now c.args.calls.now c.requires.may (keeps_none y c.args.calls.now c.requires.ids);
  own = c.requires.own;
  retried = none_yet;
}

pub retry_one-requires-clause-may : goal.retry_one-requires-clause-may
retry_one-requires-clause-may g c = may_still c.args.self.now.tables.now.socks.rule.table.shared.table_id c.args.self.now.tables.now.socks.rule.plan c.args.seat.now c.retries.seat c.requires.may c.retries.invariant.rested.rest.idle c.retries.invariant.rested.refs

pub retry_one-requires-clause-room : goal.retry_one-requires-clause-room
retry_one-requires-clause-room g c = own_room c.retries.sent c.retries.seat.me.0 c.retries.invariant.own c.in_ok-retry.ensures.next.1

pub retry_one-requires-clause-ids : goal.retry_one-requires-clause-ids
retry_one-requires-clause-ids g c = let y = c.args.self.now.tables.now.ids.table.shared.table_id in let i = c.retries.invariant in (keeps_same y c.args.calls.now c.retries.calls c.next_retry.new.calls i.rested.keeps c.next_retry.ensures.seat).ids

pub retries-preserved : goal.retries-preserved
retries-preserved g c = let z = c.args.self.now.tables.now.socks.rule.table.shared.table_id in let p = c.args.self.now.tables.now.socks.rule.plan in let y = c.args.self.now.tables.now.ids.table.shared.table_id in let i = c.retries.invariant in record {
  can_go = tt;
  is_finite = tt;
  rested = rested_then z p y c.args.seat.now c.retries.seat c.retry_one.new.seat c.args.calls.now c.retries.calls c.next_retry.new.calls c.retry_one.new.calls i.rested c.retry_one.ensures.rested c.next_retry.ensures.seat;
  own = c.retry_one.ensures.own c.retries.sent i.own;
  retried = made_one g.O.Out.state p c.args.self.now.tables.now.ids.plan (both c.args.seat.now.me.0 c.args.calls.now) c.retries.seat.me.0 c.retries.calls c.next_retry.new.calls c.next_retry.ensures.seat i.retried c.in-Some-2.retry (both c.retry_one.new.seat.me.0 c.retry_one.new.calls) (one_taken _ c.in-Some-2.retry (books_of c.retries.calls) (books_of c.next_retry.new.calls) c.in-Some-2.is c.in_ok-retry.ensures.next.0) c.in_ok-retry_one.ensures.by;
}

pub returns-in_err-retry-clause-rested : goal.returns-in_err-retry-clause-rested
returns-in_err-retry-clause-rested g c = let z = c.args.self.now.tables.now.socks.rule.table.shared.table_id in let p = c.args.self.now.tables.now.socks.rule.plan in let y = c.args.self.now.tables.now.ids.table.shared.table_id in
    rested_same z p y c.args.seat.now c.retries.seat c.args.calls.now c.retries.calls c.next_retry.new.calls c.retries.invariant.rested c.next_retry.ensures.seat

pub returns-in_err-retry-clause-own : goal.returns-in_err-retry-clause-own
returns-in_err-retry-clause-own g c = c.retries.invariant.own

pub returns-in_err-retry-clause-ran_out : goal.returns-in_err-retry-clause-ran_out
returns-in_err-retry-clause-ran_out g c = err_by c.from_residual.result (λ _. RanOut g.O.Out.state c.args.self.now.tables.now.socks.rule.plan c.args.self.now.tables.now.ids.plan c.retries.sent (both c.args.seat.now.me.0 c.args.calls.now) (both c.retries.seat.me.0 c.next_retry.new.calls)) (λ _. wanting_before g.O.Out.state c.args.self.now.tables.now.socks.rule.plan c.args.self.now.tables.now.ids.plan (both c.args.seat.now.me.0 c.args.calls.now) c.retries.seat.me.0 c.retries.calls c.next_retry.new.calls c.next_retry.ensures.seat c.retries.invariant.retried c.retries.sent c.in_err-retry.ensures.wanting.0 c.in_err-retry.ensures.wanting.1)

pub returns-in_default-clause-rested : goal.returns-in_default-clause-rested
returns-in_default-clause-rested g c = let z = c.args.self.now.tables.now.socks.rule.table.shared.table_id in let p = c.args.self.now.tables.now.socks.rule.plan in let y = c.args.self.now.tables.now.ids.table.shared.table_id in
    rested_same z p y c.args.seat.now c.retries.seat c.args.calls.now c.retries.calls c.next_retry.new.calls c.retries.invariant.rested c.next_retry.ensures.seat

pub returns-in_default-clause-own : goal.returns-in_default-clause-own
returns-in_default-clause-own g c = c.retries.invariant.own

pub returns-in_default-clause-all : goal.returns-in_default-clause-all
returns-in_default-clause-all g c = ends_fed g.O.Out.state c.args.self.now.tables.now.socks.rule.plan c.args.self.now.tables.now.ids.plan (both c.args.seat.now.me.0 c.args.calls.now) c.retries.seat.me.0 c.retries.calls c.next_retry.new.calls c.next_retry.ensures.seat c.retries.invariant.retried (none_taken _ (books_of c.retries.calls) (books_of c.next_retry.new.calls) c.in_default.not-Some c.in_ok-retry.ensures.next.0)

pub returns-in_err-retry_one-clause-rested : goal.returns-in_err-retry_one-clause-rested
returns-in_err-retry_one-clause-rested g c = let z = c.args.self.now.tables.now.socks.rule.table.shared.table_id in let p = c.args.self.now.tables.now.socks.rule.plan in let y = c.args.self.now.tables.now.ids.table.shared.table_id in
    rested_then z p y c.args.seat.now c.retries.seat c.retry_one.new.seat c.args.calls.now c.retries.calls c.next_retry.new.calls c.retry_one.new.calls c.retries.invariant.rested c.retry_one.ensures.rested c.next_retry.ensures.seat

pub returns-in_err-retry_one-clause-own : goal.returns-in_err-retry_one-clause-own
returns-in_err-retry_one-clause-own g c = c.retry_one.ensures.own c.retries.sent c.retries.invariant.own

pub returns-in_err-retry_one-clause-ran_out : goal.returns-in_err-retry_one-clause-ran_out
returns-in_err-retry_one-clause-ran_out g c = err_by c.from_residual-in_err-retry_one.result (λ _. RanOut g.O.Out.state c.args.self.now.tables.now.socks.rule.plan c.args.self.now.tables.now.ids.plan (c.retries.sent + 1) (both c.args.seat.now.me.0 c.args.calls.now) (both c.retry_one.new.seat.me.0 c.retry_one.new.calls)) (λ _. gave_out g.O.Out.state c.args.self.now.tables.now.socks.rule.plan c.args.self.now.tables.now.ids.plan (both c.args.seat.now.me.0 c.args.calls.now) c.retries.seat.me.0 c.retries.calls c.next_retry.new.calls c.next_retry.ensures.seat c.retries.invariant.retried (c.retries.sent + 1) c.in-Some-2.retry (both c.retry_one.new.seat.me.0 c.retry_one.new.calls) (one_taken _ c.in-Some-2.retry (books_of c.retries.calls) (books_of c.next_retry.new.calls) c.in-Some-2.is c.in_ok-retry.ensures.next.0) c.in_err-retry_one.ensures.gave_up)
