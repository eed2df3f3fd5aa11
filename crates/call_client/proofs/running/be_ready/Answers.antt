use Rattle.std.proofs.Common.{true, inr, refl, arith}
use Rattle.call_attempts.specs.WaitingRetries.{RanOut, before_next}
use Rattle.call_attempts.specs.ClientAtBothTables.{both}
use Rattle.call_attempts.proofs.LeftByAttempt.{err_by}
use Rattle.call_client.specs.ClientBetweenOperations.{stand, both_of}
use Rattle.call_client.proofs.ClientAfterOperations.{may_act_now, kept_go}
use Rattle.call_client.proofs.running.be_ready.Goals as goal

pub retry_all-requires-clause-may : goal.retry_all-requires-clause-may
retry_all-requires-clause-may g c = may_act_now c.args.at.now.tables.now.socks.rule.table.shared.table_id c.args.at.now.tables.now.socks.rule.plan c.args.at.now.tables.now.ids.table.shared.table_id c.args.made c.args.caller.now c.requires.go (omega arith)

pub returns-in_err-retry_all-clause-go : goal.returns-in_err-retry_all-clause-go
returns-in_err-retry_all-clause-go g c = kept_go c.args.at.now.tables.now.socks.rule.table.shared.table_id c.args.at.now.tables.now.socks.rule.plan c.args.at.now.tables.now.ids.table.shared.table_id c.args.made c.args.made c.args.caller.now (record c.args.caller.now { seat = c.retry_all.new.seat; calls = c.retry_all.new.calls; sent = c.retry_all.new.sent }) c.requires.go (omega arith) c.retry_all.ensures.rested.rest c.retry_all.ensures.rested.refs refl c.requires.go.passes c.retry_all.ensures.own c.retry_all.ensures.rested.keeps.ids

pub returns-in_err-retry_all-clause-ran_out : goal.returns-in_err-retry_all-clause-ran_out
returns-in_err-retry_all-clause-ran_out g c = let d = record c.args.caller.now { seat = c.retry_all.new.seat; calls = c.retry_all.new.calls; sent = c.retry_all.new.sent } in
    err_by c.from_residual.result (λ _. RanOut g.O.Out.state c.args.at.now.tables.now.socks.rule.plan c.args.at.now.tables.now.ids.plan c.retry_all.new.sent (both_of (stand c.args.caller.now)) (both_of (stand d))) (λ _. c.in_err-retry_all.ensures.ran_out)

pub returns-then-is_full-clause-go : goal.returns-then-is_full-clause-go
returns-then-is_full-clause-go g c = kept_go c.args.at.now.tables.now.socks.rule.table.shared.table_id c.args.at.now.tables.now.socks.rule.plan c.args.at.now.tables.now.ids.table.shared.table_id c.args.made c.args.made c.args.caller.now (record c.args.caller.now { seat = c.retry_all.new.seat; calls = record c.retry_all.new.calls { starved = true }; sent = c.retry_all.new.sent }) c.requires.go (omega arith) c.retry_all.ensures.rested.rest c.retry_all.ensures.rested.refs refl c.requires.go.passes c.retry_all.ensures.own c.retry_all.ensures.rested.keeps.ids

pub returns-then-is_full-clause-ran_out : goal.returns-then-is_full-clause-ran_out
returns-then-is_full-clause-ran_out g c = before_next (both c.retry_all.new.seat.me.0 c.retry_all.new.calls) c.in_ok-retry_all.ensures.all.retried (inr (c.is_full.ensures.full c.if-is_full.true)) refl

pub returns-clause-go : goal.returns-clause-go
returns-clause-go g c = kept_go c.args.at.now.tables.now.socks.rule.table.shared.table_id c.args.at.now.tables.now.socks.rule.plan c.args.at.now.tables.now.ids.table.shared.table_id c.args.made c.args.made c.args.caller.now (record c.args.caller.now { seat = c.retry_all.new.seat; calls = c.retry_all.new.calls; sent = c.retry_all.new.sent }) c.requires.go (omega arith) c.retry_all.ensures.rested.rest c.retry_all.ensures.rested.refs refl c.requires.go.passes c.retry_all.ensures.own c.retry_all.ensures.rested.keeps.ids
