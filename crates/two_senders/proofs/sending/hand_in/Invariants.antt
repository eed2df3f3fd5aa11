use Rattle.std.proofs.Common.{◌≡◌, ◌*◌, ◌<◌}
use Rattle.two_senders.specs.SentTexts.{IsHolding}
use Rattle.two_senders.proofs.sending.hand_in.Given as goal

abbrev pub invariant-tries : goal.invariant-tries
invariant-tries g l = record {
  can_go : (goal.iterator-tries g).can_next l.iterator';
  is_finite : (goal.iterator-tries g).is_finite l.iterator';
  holding : IsHolding l.table.rule.table.shared.table_id l.table.rule.plan l.sock.id.0 l.seat;
  lists : l.seat.me.0.lists ≡ l.fn.seat.me.0.lists;
  msg : l.msg ≡ l.fn.msg;
  label : l.msg.label.place < 8 * l.table.rule.plan.operations;
}
