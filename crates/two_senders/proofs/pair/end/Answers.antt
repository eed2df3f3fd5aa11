use Rattle.std.proofs.Common.{subst, ap, ◌∙◌, arith}
use Rattle.sock_words.specs.Totals.{total}
use Rattle.write_chain.proofs.SeatBetweenMessages.{two_done}
use Rattle.chain_orders.specs.MessagesInOneOrder.{OrdersMessages}
use Rattle.two_senders.proofs.TextsInOrder.{both_differ, took_both, last_one}
use Rattle.two_senders.proofs.pair.end.Goals as goal

pub close-requires-clause-seats : goal.close-requires-clause-seats
close-requires-clause-seats g c = two_done _ _ c.args.one.seat c.args.two.seat c.in-Ok.seats.items c.in-Ok.ensures.items c.requires.one.0.0 c.requires.two.0.0

pub close-requires-clause-all : goal.close-requires-clause-all
close-requires-clause-all g c = let e = ap (total (λ s. s.me.0.share)) c.in-Ok.ensures.items in omega (arith, c.requires.one.0.1, c.requires.two.0.1, c.requires.all)

pub returns-clause-took : goal.returns-clause-took
returns-clause-took g c =
    let p = c.args.table.rule.plan in
    let closed = c.in-Ok-close.ensures.closed in
    let outs = c.in-Ok-close.closed.outs.items in
    let law = subst (OrdersMessages g.O.Out.state) c.as_slice.ensures.value c.messages_in_one_order.ensures in
    let differ = both_differ c.args._ones.now c.args._twos.now c.args.one.count c.args.two.count c.args.one.seat c.args.two.seat c.in-Ok.seats.items c.in-Ok.ensures.items c.requires.one.1 c.requires.two.1 in
    took_both c.args._ones.now c.args._twos.now c.args.one.count c.args.two.count g.O.Out.state p c.args.one.seat c.args.two.seat c.in-Ok.seats.items c.in_ok-out.out outs c.in-Ok.ensures.items c.requires.one.1 c.requires.two.1 c.requires.shared
    (last_one outs c.pop.new.self.items c.in_ok-out.out (closed.count ∙ c.requires.shared.0) c.in_ok-out.ensures.items)
    (law p c.in-Ok-close.closed.places.items c.in-Ok-close.closed.vrefs.items outs closed differ)
