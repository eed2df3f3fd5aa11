use Rattle.std.proofs.Common.{◌≡◌}
use Rattle.call_attempts.proofs.LeftByAttempt.{err_by}
use Rattle.call_client.specs.ClientBetweenOperations.{stand}
use Rattle.call_client.specs.ClientStopsMaking.{NotMade}
use Rattle.call_client.proofs.running.make.Goals as goal

pub returns-in_err-told-clause-not_made : goal.returns-in_err-told-clause-not_made
returns-in_err-told-clause-not_made g c = err_by c.from_residual.result (λ _. NotMade g.O.Out.state c.args.at.now.tables.now.socks.rule.plan c.args.at.now.tables.now.ids.plan c.args.task.op (stand c.args.caller.now) (stand c.act.new.caller) × (c.act.new.caller.outcomes ≡ c.args.caller.now.outcomes)) (λ _. (c.in_err-told.ensures.not_made, c.act.ensures.told))
