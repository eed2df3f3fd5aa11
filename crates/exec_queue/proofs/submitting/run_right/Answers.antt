use Rattle.std.proofs.Common.{sym, ◌∙◌, subst}
use Rattle.sock_table.specs.declared.refs.SockRef.{SockRef}
use Rattle.write_chain.specs.WritingRightInHand.{GaveUp}
use Rattle.write_chain.specs.ReadyToSend.{HoldsOne}
use Rattle.write_chain.proofs.SeatBetweenMessages.{wrote_one}
use Rattle.exec_queue.proofs.SubmitterCalls.{wrote_lists}
use Rattle.exec_queue.specs.StoppedQueue.{Grew}
use Rattle.exec_queue.proofs.SubmitterNotes.{grew_then, wrote_grew}
use Rattle.exec_queue.proofs.submitting.run_right.Goals as goal

pub run_on-requires-clause-may : goal.run_on-requires-clause-may
run_on-requires-clause-may g c = c.in-Keep.ensures.once.1

pub run_on-requires-clause-one : goal.run_on-requires-clause-one
run_on-requires-clause-one g c = subst (λ (y : SockRef). HoldsOne c.args.table.now.rule.plan y.id.0 c.write_once.new.seat.me.0) (sym c.in-Keep.ensures.once.0) (wrote_one c.args.table.now.rule.plan c.args.right.sock.id.0 c.args.seat.now.me.0 c.write_once.new.seat.me.0 c.write_once.ensures.wrote c.requires.one)

pub returns-in-Done-clause-up : goal.returns-in-Done-clause-up
returns-in-Done-clause-up g c = let k = c.in-Done.ensures.once in subst (λ (y : SockRef). GaveUp c.args.table.now.rule.plan y.id.0 c.write_once.new.seat.me) (sym k.0) k.1

pub returns-in-Done-clause-one : goal.returns-in-Done-clause-one
returns-in-Done-clause-one g c = let k = c.in-Done.ensures.once in subst (λ (y : SockRef). HoldsOne c.args.table.now.rule.plan y.id.0 c.write_once.new.seat.me.0) (sym k.0) (wrote_one c.args.table.now.rule.plan c.args.right.sock.id.0 c.args.seat.now.me.0 c.write_once.new.seat.me.0 c.write_once.ensures.wrote c.requires.one)

pub returns-in-Done-clause-lists : goal.returns-in-Done-clause-lists
returns-in-Done-clause-lists g c = wrote_lists c.args.right.sock.id.0 c.args.seat.now.me.0 c.write_once.new.seat.me.0 c.write_once.ensures.wrote

pub returns-in-Keep-clause-same : goal.returns-in-Keep-clause-same
returns-in-Keep-clause-same g c = c.run_on.ensures.same ∙ c.in-Keep.ensures.once.0

pub returns-in-Keep-clause-lists : goal.returns-in-Keep-clause-lists
returns-in-Keep-clause-lists g c = c.run_on.ensures.lists ∙ wrote_lists c.args.right.sock.id.0 c.args.seat.now.me.0 c.write_once.new.seat.me.0 c.write_once.ensures.wrote

pub returns-in-Done-clause-notes : goal.returns-in-Done-clause-notes
returns-in-Done-clause-notes g c = wrote_grew c.args.right.sock.id.0 c.write_once.new.seat.me.0 c.args.seat.now.me.0 c.write_once.ensures.wrote

pub returns-in-Keep-clause-notes : goal.returns-in-Keep-clause-notes
returns-in-Keep-clause-notes g c = grew_then c.args.right.sock.id.0 0 0 c.args.seat.now.me.0 c.write_once.new.seat.me.0 c.run_on.new.seat.me.0 (wrote_grew c.args.right.sock.id.0 c.write_once.new.seat.me.0 c.args.seat.now.me.0 c.write_once.ensures.wrote) (subst (λ (y : SockRef). Grew y.id.0 0 c.write_once.new.seat.me.0 c.run_on.new.seat.me.0) c.in-Keep.ensures.once.0 c.run_on.ensures.notes)
