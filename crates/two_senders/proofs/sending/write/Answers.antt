use Rattle.std.proofs.Common.{sym, ◌∙◌, subst}
use Rattle.sock_table.specs.declared.refs.SockRef.{SockRef}
use Rattle.write_chain.specs.WritingRightInHand.{GaveUp}
use Rattle.write_chain.specs.ReadyToSend.{HoldsOne}
use Rattle.write_chain.proofs.SeatBetweenMessages.{wrote_one}
use Rattle.chain_orders.proofs.SenderCalls.{wrote_sent}
use Rattle.two_senders.proofs.sending.write.Goals as goal

pub write_on-requires-clause-may : goal.write_on-requires-clause-may
write_on-requires-clause-may g c = c.in-Keep.ensures.once.1

pub write_on-requires-clause-one : goal.write_on-requires-clause-one
write_on-requires-clause-one g c = subst (λ (y : SockRef). HoldsOne c.args.table.now.rule.plan y.id.0 c.write_once.new.seat.me.0) (sym c.in-Keep.ensures.once.0) (wrote_one c.args.table.now.rule.plan c.args.right.sock.id.0 c.args.seat.now.me.0 c.write_once.new.seat.me.0 c.write_once.ensures.wrote c.requires.one)

pub returns-in-Done-clause-holding : goal.returns-in-Done-clause-holding
returns-in-Done-clause-holding g c = let k = c.in-Done.ensures.once in record {
  seat = c.write_once.ensures.seat;
  up = subst (λ (y : SockRef). GaveUp c.args.table.now.rule.plan y.id.0 c.write_once.new.seat.me) (sym k.0) k.1;
  one = subst (λ (y : SockRef). HoldsOne c.args.table.now.rule.plan y.id.0 c.write_once.new.seat.me.0) (sym k.0) (wrote_one c.args.table.now.rule.plan c.args.right.sock.id.0 c.args.seat.now.me.0 c.write_once.new.seat.me.0 c.write_once.ensures.wrote c.requires.one);
}

pub returns-in-Done-clause-lists : goal.returns-in-Done-clause-lists
returns-in-Done-clause-lists g c = wrote_sent c.args.right.sock.id.0 c.args.seat.now.me.0 c.write_once.new.seat.me.0 c.write_once.ensures.wrote

pub returns-in-Keep-clause-lists : goal.returns-in-Keep-clause-lists
returns-in-Keep-clause-lists g c = c.write_on.ensures.lists ∙ wrote_sent c.args.right.sock.id.0 c.args.seat.now.me.0 c.write_once.new.seat.me.0 c.write_once.ensures.wrote
