use Rattle.std.proofs.Common.{Some, None, refl, ◌∙◌}
use Rattle.call_client.specs.rpc_client.proofs.CountedReferences.{refs_then}
use Rattle.call_run.proofs.SocketsEndedByMain.{done_idle, still_may, still_done}
use Rattle.call_run.proofs.failing.end_one.Goals as goal

pub wait_open-requires-clause-idle : goal.wait_open-requires-clause-idle
wait_open-requires-clause-idle g c = done_idle c.args.table.now.rule.table.shared.table_id c.args.table.now.rule.plan c.args.seat.now c.requires.done

pub returns-in-None-clause-done : goal.returns-in-None-clause-done
returns-in-None-clause-done g c = still_done c.args.table.now.rule.table.shared.table_id c.args.table.now.rule.plan c.args.seat.now c.wait_open.new.seat c.requires.done c.wait_open.ensures.rest.idle c.wait_open.ensures.refs

pub returns-in-None-clause-ended : goal.returns-in-None-clause-ended
returns-in-None-clause-ended g c = record { id = None; noted = c.wait_open.new.seat.me.0; opened = c.in-None.ensures.opened; failed = refl }

pub fail_id-requires-clause-may : goal.fail_id-requires-clause-may
fail_id-requires-clause-may g c = still_may c.args.table.now.rule.table.shared.table_id c.args.table.now.rule.plan c.args.seat.now c.wait_open.new.seat c.requires.done c.wait_open.ensures.rest.idle c.wait_open.ensures.refs

pub returns-in-Some-clause-done : goal.returns-in-Some-clause-done
returns-in-Some-clause-done g c = still_done c.args.table.now.rule.table.shared.table_id c.args.table.now.rule.plan c.args.seat.now c.fail_id.new.seat c.requires.done c.fail_id.ensures.rest.idle
    (refs_then c.args.seat.now.me.0 c.wait_open.new.seat.me.0 c.fail_id.new.seat.me.0 c.wait_open.ensures.refs c.fail_id.ensures.refs)

pub returns-in-Some-clause-share : goal.returns-in-Some-clause-share
returns-in-Some-clause-share g c = c.fail_id.ensures.rest.share ∙ c.wait_open.ensures.rest.share

pub returns-in-Some-clause-ended : goal.returns-in-Some-clause-ended
returns-in-Some-clause-ended g c = record { id = Some c.in-Some.id; noted = c.wait_open.new.seat.me.0; opened = c.in-Some.ensures.opened; failed = c.fail_id.ensures.by }
