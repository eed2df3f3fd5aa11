use Rattle.call_errors.specs.rpc_client.specs.AcceptedClientMessages.{OwnList}
use Rattle.call_writes.specs.MessageFateBesideCalls.{Rested}
use Rattle.call_attempts.specs.ClientAtBothTables.{both}
use Rattle.call_attempts.specs.WaitingRetries.{Retried}
use Rattle.call_attempts.proofs.call_tables.CallTables.retry_all.Given as goal

abbrev pub invariant-retries : goal.invariant-retries
invariant-retries g l = record {
  can_go : (goal.iterator-retries g).can_next l.iterator';
  is_finite : (goal.iterator-retries g).is_finite l.iterator';
  rested : Rested l.self.tables.now.socks.rule.table.shared.table_id l.self.tables.now.socks.rule.plan l.self.tables.now.ids.table.shared.table_id l.fn.seat l.seat l.fn.calls l.calls;
  own : OwnList l.sent l.seat.me.0;
  retried : Retried g.O.Out.state l.self.tables.now.socks.rule.plan l.self.tables.now.ids.plan (both l.fn.seat.me.0 l.fn.calls) (both l.seat.me.0 l.calls);
}
