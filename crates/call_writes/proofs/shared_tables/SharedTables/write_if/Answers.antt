use Rattle.std.proofs.Common.{◌∙◌, subst}
use Rattle.sock_table.specs.declared.refs.SockRef.{SockRef}
use Rattle.write_chain.specs.WritingRightInHand.{GaveUp}
use Rattle.call_errors.specs.ClientBooks.{stand_of}
use Rattle.call_writes.specs.Draining.{Drained}
use Rattle.call_writes.proofs.Drains.{drained_none, drained_wrote, drained_after}
use Rattle.call_writes.proofs.shared_tables.SharedTables.write_if.Goals as goal
use Rattle.write_chain.specs.ReadyToSend.{sock_of}

pub returns-in-Queued-clause-drained : goal.returns-in-Queued-clause-drained
returns-in-Queued-clause-drained g c = drained_none c.args.self.now.socks.now.rule.plan c.args.self.now.ids.now.plan.slots (sock_of c.args.started).id.0 c.args.seat.now.me.0 (stand_of c.args.calls.now)

pub returns-in-Done-clause-gave : goal.returns-in-Done-clause-gave
returns-in-Done-clause-gave g c = rw c.in-Right.is c.in-Done.ensures.once

pub returns-in-Done-clause-drained : goal.returns-in-Done-clause-drained
returns-in-Done-clause-drained g c = rw c.in-Right.is (drained_wrote c.args.self.now.socks.now.rule.plan c.args.self.now.ids.now.plan.slots c.in-Right.right.sock.id.0 c.args.seat.now.me.0 c.write_once.new.seat.me.0 (stand_of c.args.calls.now) c.write_once.ensures.wrote)

pub returns-in-Keep-clause-gave : goal.returns-in-Keep-clause-gave
returns-in-Keep-clause-gave g c = let p = c.args.self.now.socks.now.rule.plan in rw c.in-Right.is (c.drain.ensures.gave.0 ∙ c.in-Keep.ensures.once.0, subst (λ (y : SockRef). GaveUp p y.id.0 c.drain.new.seat.me) c.in-Keep.ensures.once.0 c.drain.ensures.gave.1)

pub returns-in-Keep-clause-drained : goal.returns-in-Keep-clause-drained
returns-in-Keep-clause-drained g c = let p = c.args.self.now.socks.now.rule.plan in let slots = c.args.self.now.ids.now.plan.slots in rw c.in-Right.is (drained_after p slots c.in-Right.right.sock.id.0 c.args.seat.now.me.0 c.write_once.new.seat.me.0 c.drain.new.seat.me.0 (stand_of c.args.calls.now) (stand_of c.drain.new.calls) c.write_once.ensures.wrote
    (subst (λ (y : SockRef). Drained g.O.Out.state p slots y.id.0 c.write_once.new.seat.me.0 (stand_of c.args.calls.now) c.drain.new.seat.me.0 (stand_of c.drain.new.calls)) c.in-Keep.ensures.once.0 c.drain.ensures.drained))
