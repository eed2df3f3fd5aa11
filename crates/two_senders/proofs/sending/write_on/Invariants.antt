use Rattle.chain_orders.specs.SentMessages.{SameLists}
use Rattle.sock_rule.specs.SocketSeatSplits.{IsSeat}
use Rattle.write_chain.specs.WritingRightInHand.{MayGoOn}
use Rattle.write_chain.specs.ReadyToSend.{HoldsOne}
use Rattle.two_senders.proofs.sending.write_on.Given as goal

abbrev pub invariant-goes : goal.invariant-goes
invariant-goes g l = record {
  can_go : (goal.iterator-goes g).can_next l.iterator';
  is_finite : (goal.iterator-goes g).is_finite l.iterator';
  seat : IsSeat l.table.rule.table.shared.table_id l.table.rule.plan l.seat;
  may : MayGoOn l.table.rule.plan l.table.rule.ways.list l.right l.seat.me;
  holds : HoldsOne l.table.rule.plan l.right.sock.id.0 l.seat.me.0;
  lists : SameLists l.fn.seat.me.0 l.seat.me.0;
}
