use Rattle.std.proofs.Common.{take}
use Rattle.call_client.specs.rpc_client.specs.SeatBetweenOperations.{AtRest}
use Rattle.call_run.specs.Threads.{FoundEach}
use Rattle.call_run.proofs.waiting.wait_all.Given as goal

abbrev pub invariant-names : goal.invariant-names
invariant-names g l = record {
  rest : AtRest l.table.rule.table.shared.table_id l.table.rule.plan l.fn.seat l.seat;
  found : FoundEach l.table.rule.plan (take l.name-index l.names) l.fn.seat.me.0 l.seat.me.0;
}
