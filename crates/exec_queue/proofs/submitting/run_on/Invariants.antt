use Rattle.std.proofs.Common.{◌≡◌}
use Rattle.sock_rule.specs.SocketSeatSplits.{IsSeat}
use Rattle.write_chain.specs.WritingRightInHand.{MayGoOn}
use Rattle.write_chain.specs.ReadyToSend.{HoldsOne}
use Rattle.exec_queue.specs.StoppedQueue.{Grew}
use Rattle.exec_queue.proofs.submitting.run_on.Given as goal

abbrev pub invariant-goes : goal.invariant-goes
invariant-goes g l = record {
  can_go : (goal.iterator-goes g).can_next l.iterator';
  is_finite : (goal.iterator-goes g).is_finite l.iterator';
  seat : IsSeat l.table.rule.table.shared.table_id l.table.rule.plan l.seat;
  may : MayGoOn l.table.rule.plan l.table.rule.ways.list l.right l.seat.me;
  holds : HoldsOne l.table.rule.plan l.right.sock.id.0 l.seat.me.0;
  same : l.right.sock ≡ l.fn.right.sock;
  lists : l.seat.me.0.lists ≡ l.fn.seat.me.0.lists;
  notes : Grew l.fn.right.sock.id.0 0 l.fn.seat.me.0 l.seat.me.0;
}
