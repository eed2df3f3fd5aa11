use Rattle.call_client.specs.rpc_client.specs.SeatBetweenOperations.{StillIdle}
use Rattle.call_run.proofs.waiting.wait_for.Given as goal

abbrev pub invariant-waits : goal.invariant-waits
invariant-waits g l = record {
  can_go : (goal.iterator-waits g).can_next l.iterator';
  is_finite : (goal.iterator-waits g).is_finite l.iterator';
  still : StillIdle l.table.rule.table.shared.table_id l.table.rule.plan l.fn.seat l.seat;
}
