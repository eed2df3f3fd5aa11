use Rattle.call_client.specs.rpc_client.proofs.FindingReferences.{rest_then}
use Rattle.call_run.proofs.FindingNamedSockets.{found_next}
use Rattle.call_run.proofs.waiting.wait_all.Goals as goal

pub names-preserved : goal.names-preserved
names-preserved g c = let p = c.args.table.now.rule.plan in let i = c.names.invariant in let e = c.wait_for.ensures in record {
  rest = rest_then c.args.table.now.rule.table.shared.table_id p c.args.seat.now c.names.seat c.wait_for.new.seat i.rest e.rest;
  found = found_next p c.args.names.now c.names.name-index c.args.seat.now.me.0 c.names.seat.me.0 c.wait_for.new.seat.me.0 e.found.0 c.names-test.true i.found e.found.1;
}
