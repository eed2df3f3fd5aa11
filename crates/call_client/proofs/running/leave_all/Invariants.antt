use Rattle.std.proofs.Common.{◌≡◌, length}
use Rattle.std.specs.Prelude.{All}
use Rattle.sock_table.specs.LinkPasses.{IsPass}
use Rattle.rpc_client.specs.SeatBetweenOperations.{Idle, SameRefs}
use Rattle.call_client.specs.ClientBetweenOperations.{Stand, stand}
use Rattle.call_client.specs.ClientRun.{MayMakeAll, LeftAll}
use Rattle.call_client.proofs.running.leave_all.Given as goal

abbrev pub invariant-leaves : goal.invariant-leaves
invariant-leaves g l = record {
  idle : Idle l.tables.socks.rule.table.shared.table_id l.tables.socks.rule.plan l.caller.seat;
  share : l.caller.seat.me.0.share ≡ l.fn.caller.seat.me.0.share;
  passes : All (IsPass l.tables.socks.rule.table.shared.table_id l.tables.socks.rule.plan) l.caller.passes.items;
  may : MayMakeAll l.tables.socks.rule.plan l.tables.ids.plan l.tasks.items (length l.caller.passes.items);
  left : (t : Stand g.O.Out) → LeftAll l.tables.socks.rule.plan l.tasks.items (stand l.caller) t → LeftAll l.tables.socks.rule.plan l.fn.tasks.items (stand l.fn.caller) t;
  refs : SameRefs l.fn.caller.seat.me.0 l.caller.seat.me.0;
  held : l.caller.held ≡ l.fn.caller.held;
  outcomes : l.caller.outcomes ≡ l.fn.caller.outcomes;
  calls : l.caller.calls ≡ l.fn.caller.calls;
}

abbrev pub decreases-leaves : goal.decreases-leaves
decreases-leaves g l = length l.tasks.items
