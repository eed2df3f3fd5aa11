use Rattle.std.proofs.Common.{refl, sym, ◌∙◌, subst}
use Rattle.sock_table.specs.declared.refs.SockRef.{SockRef}
use Rattle.write_chain.specs.WritingRightInHand.{GaveUp}
use Rattle.write_chain.specs.ReadyToSend.{HoldsOne}
use Rattle.write_chain.proofs.SeatBetweenMessages.{wrote_one, dropped_one}
use Rattle.exec_queue.proofs.SubmitterCalls.{wrote_lists, dropped_lists}
use Rattle.exec_queue.specs.StoppedQueue.{Grew}
use Rattle.exec_queue.proofs.SubmitterNotes.{no_growth, grew_then, wrote_grew, dropped_grew}
use Rattle.exec_queue.proofs.submitting.run_on.Goals as goal

pub goes-init : goal.goes-init
goes-init g c = record { can_go = tt; is_finite = tt; seat = c.requires.seat; may = c.requires.may; holds = c.requires.one; same = refl; lists = refl; notes = no_growth c.args.right.sock.id.0 c.args.seat.now.me.0 }

pub goes-preserved : goal.goes-preserved
goes-preserved g c = record {
  can_go = tt;
  is_finite = tt;
  seat = c.keep_write.ensures.seat;
  may = c.in-Dropped.ensures.kept.1;
  holds = subst (λ (y : SockRef). HoldsOne c.args.table.now.rule.plan y.id.0 c.keep_write.new.seat.me.0) (sym c.in-Dropped.ensures.kept.0) (dropped_one c.args.table.now.rule.plan c.goes.right.sock.id.0 _ c.goes.seat.me.0 c.keep_write.new.seat.me.0 c.in-Dropped.ensures.wrote c.goes.invariant.holds);
  same = c.in-Dropped.ensures.kept.0 ∙ c.goes.invariant.same;
  lists = dropped_lists c.args.table.now.rule.plan c.goes.right.sock.id.0 _ c.goes.seat.me.0 c.keep_write.new.seat.me.0 c.in-Dropped.ensures.wrote ∙ c.goes.invariant.lists;
  notes = grew_then c.args.right.sock.id.0 0 0 c.args.seat.now.me.0 c.goes.seat.me.0 c.keep_write.new.seat.me.0 c.goes.invariant.notes (subst (λ (y : SockRef). Grew y.id.0 0 c.goes.seat.me.0 c.keep_write.new.seat.me.0) c.goes.invariant.same (dropped_grew c.args.table.now.rule.plan c.goes.right.sock.id.0 _ c.goes.seat.me.0 c.keep_write.new.seat.me.0 c.in-Dropped.ensures.wrote));
}

pub returns-in-Done-clause-up : goal.returns-in-Done-clause-up
returns-in-Done-clause-up g c = let k = c.in-Done.ensures.kept in subst (λ (y : SockRef). GaveUp c.args.table.now.rule.plan y.id.0 c.keep_write.new.seat.me) (sym k.0) k.1

pub returns-in-Done-clause-one : goal.returns-in-Done-clause-one
returns-in-Done-clause-one g c = let k = c.in-Done.ensures.kept in subst (λ (y : SockRef). HoldsOne c.args.table.now.rule.plan y.id.0 c.keep_write.new.seat.me.0) (sym k.0) (wrote_one c.args.table.now.rule.plan c.goes.right.sock.id.0 c.goes.seat.me.0 c.keep_write.new.seat.me.0 c.in-Done.ensures.wrote c.goes.invariant.holds)

pub returns-in-Done-clause-same : goal.returns-in-Done-clause-same
returns-in-Done-clause-same g c = c.in-Done.ensures.kept.0 ∙ c.goes.invariant.same

pub returns-in-Done-clause-lists : goal.returns-in-Done-clause-lists
returns-in-Done-clause-lists g c = wrote_lists c.goes.right.sock.id.0 c.goes.seat.me.0 c.keep_write.new.seat.me.0 c.in-Done.ensures.wrote ∙ c.goes.invariant.lists

pub returns-in-Done-clause-notes : goal.returns-in-Done-clause-notes
returns-in-Done-clause-notes g c = grew_then c.args.right.sock.id.0 0 0 c.args.seat.now.me.0 c.goes.seat.me.0 c.keep_write.new.seat.me.0 c.goes.invariant.notes (subst (λ (y : SockRef). Grew y.id.0 0 c.goes.seat.me.0 c.keep_write.new.seat.me.0) c.goes.invariant.same (wrote_grew c.goes.right.sock.id.0 c.keep_write.new.seat.me.0 c.goes.seat.me.0 c.in-Done.ensures.wrote))
