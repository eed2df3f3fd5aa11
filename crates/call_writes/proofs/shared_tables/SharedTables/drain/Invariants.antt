use Rattle.write_chain.specs.KeepingOnWriting.{StillWrites}
use Rattle.call_errors.specs.ClientBooks.{stand_of, KeepsSeat}
use Rattle.call_writes.specs.Draining.{DroppedAll}
use Rattle.call_writes.proofs.shared_tables.SharedTables.drain.Given as goal

abbrev pub invariant-drops : goal.invariant-drops
invariant-drops g l = record {
  can_go : (goal.iterator-drops g).can_next l.iterator';
  is_finite : (goal.iterator-drops g).is_finite l.iterator';
  still : StillWrites l.self.socks.now.rule.table.shared.table_id l.self.socks.now.rule.plan l.self.socks.now.rule.ways.list l.fn.right.sock l.right l.seat;
  keeps : KeepsSeat l.self.ids.now.table.shared.table_id l.fn.calls l.calls;
  dropped : DroppedAll g.O.Out.state l.self.socks.now.rule.plan l.self.ids.now.plan.slots l.fn.right.sock.id.0 l.fn.seat.me.0 (stand_of l.fn.calls) l.seat.me.0 (stand_of l.calls);
}
