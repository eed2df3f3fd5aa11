use Rattle.std.proofs.Common.{◌≡◌, ℕ, ◌≤◌, length, drop}
use Rattle.rpc_client.specs.SeatBetweenOperations.{AtRest}
use Rattle.rpc_client.specs.HoldAndDropOutcomes.{IsHolder}
use Rattle.rpc_client.specs.ToldOfOperation.{GaveFirst}
use Rattle.rpc_client.proofs.running.give_all.Given as goal

abbrev pub invariant-gives : goal.invariant-gives
invariant-gives g l = record {
  rest : AtRest l.table.rule.table.shared.table_id l.table.rule.plan l.fn.seat l.seat;
  holder : IsHolder l.table.rule.plan l.held.items l.seat.me.0;
  given : (k : ℕ) × (k ≤ length l.fn.held.items) × (l.held.items ≡ drop k l.fn.held.items) × GaveFirst l.fn.held.items k l.fn.seat.me.0 l.seat.me.0;
  lists : l.seat.me.0.lists ≡ l.fn.seat.me.0.lists;
}

abbrev pub decreases-gives : goal.decreases-gives
decreases-gives g l = length l.held.items
