use Rattle.write_chain.specs.NotingWhileWriting.{Wrote}
use Rattle.write_chain.specs.WritingRightInHand.{FoundDead, HasMore}
use Rattle.write_chain.specs.KeepingOnWriting.{StillWrites}
use Rattle.write_chain.proofs.keep.keep_write.Given as goal

abbrev pub invariant-goes : goal.invariant-goes
invariant-goes g l = record {
  can_go : (goal.iterator-goes g).can_next l.iterator';
  is_finite : (goal.iterator-goes g).is_finite l.iterator';
  still : StillWrites l.table.rule.table.shared.table_id l.table.rule.plan l.table.rule.ways.list l.fn.right.sock l.right l.seat;
  stays : FoundDead l.fn.right.sock.id.0 l.fn.seat.me.0 → HasMore l.fn.right.doing → HasMore l.right.doing;
  wrote : Wrote g.O.Out.state l.fn.right.sock.id.0 l.fn.seat.me.0 l.seat.me.0;
}
