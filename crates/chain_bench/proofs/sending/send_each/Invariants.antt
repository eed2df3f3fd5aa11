use Rattle.std.proofs.Common.{◌≡◌, ◌-◌}
use Rattle.chain_bench.specs.SenderWithOneReference.{HasRoomFor, IsHolding}
use Rattle.chain_bench.proofs.sending.send_each.Given as goal

abbrev pub invariant-sends : goal.invariant-sends
invariant-sends g l = record {
  holding : IsHolding l.table.rule.table.shared.table_id l.table.rule.plan l.sock.id.0 l.seat;
  room : HasRoomFor (l.count-end - l.count) l.seat.me.0;
  end : l.count-end ≡ l.initial.count-end;
}

abbrev pub decreases-sends : goal.decreases-sends
decreases-sends g l = l.count-end - l.count
