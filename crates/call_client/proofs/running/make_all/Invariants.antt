use Rattle.std.proofs.Common.{◌≡◌, ◌+◌, ◌≤◌, length, drop, vec_capacity}
use Rattle.corr_id.specs.IdTableSeat.{Stays}
use Rattle.call_client.specs.ClientBetweenOperations.{MayGo}
use Rattle.call_client.specs.ClientRun.{MayMakeAll, RanTo}
use Rattle.call_client.proofs.running.make_all.Given as goal

abbrev pub invariant-makes : goal.invariant-makes
invariant-makes g l = record {
  rest : drop l.made l.fn.tasks.items ≡ l.tasks.items;
  few : l.made ≤ length l.fn.tasks.items;
  go : MayGo l.at.tables.now.socks.rule.table.shared.table_id l.at.tables.now.socks.rule.plan l.at.tables.now.ids.table.shared.table_id l.made l.caller;
  ran : RanTo g.O.Out.state l.at.tables.now.socks.rule.plan l.at.tables.now.ids.plan l.fn.tasks.items l.made l.fn.caller l.caller;
  left : MayMakeAll l.at.tables.now.socks.rule.plan l.at.tables.now.ids.plan l.tasks.items (length l.caller.passes.items);
  share : l.caller.seat.me.0.share ≡ l.fn.caller.seat.me.0.share;
  same : Stays l.fn.caller.calls.seat l.caller.calls.seat;
  held_room : length l.fn.tasks.items ≤ vec_capacity l.caller.held;
  told_room : length l.caller.outcomes.items + length l.fn.tasks.items ≤ vec_capacity l.caller.outcomes + l.made;
}

abbrev pub decreases-makes : goal.decreases-makes
decreases-makes g l = length l.tasks.items
