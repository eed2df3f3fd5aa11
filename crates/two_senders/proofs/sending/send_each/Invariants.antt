use Rattle.std.proofs.Common.{◌-◌}
use Rattle.chain_orders.specs.SentMessages.{HasSent}
use Rattle.two_senders.specs.SentTexts.{messages, IsHolding}
use Rattle.two_senders.proofs.sending.send_each.Given as goal

abbrev pub invariant-sends : goal.invariant-sends
invariant-sends g l = record {
  holding : IsHolding l.table.rule.table.shared.table_id l.table.rule.plan l.sock.id.0 l.seat;
  sent : HasSent l.seat.me.0 (messages l.thread l.texts l.count);
}

abbrev pub decreases-sends : goal.decreases-sends
decreases-sends g l = l.all - l.count
