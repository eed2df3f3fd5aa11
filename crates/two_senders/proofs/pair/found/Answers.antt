use Rattle.std.proofs.Common.{◌∙◌}
use Rattle.sock_open.proofs.SeatsHoldingNothing.{done_between}
use Rattle.write_chain.proofs.SeatBetweenMessages.{kept_free}
use Rattle.chain_orders.proofs.SenderCalls.{same_sent}
use Rattle.two_senders.proofs.pair.found.Goals as goal

pub find-requires-clause-seat : goal.find-requires-clause-seat
find-requires-clause-seat g c = c.requires.seat.done.seat

pub returns : goal.returns
returns g c = let z = c.args.table.now.rule.table.shared.table_id in let p = c.args.table.now.rule.plan in let f = kept_free z p c.args.seat c.find.new.seat c.requires.seat c.find.ensures.seat c.find.ensures.slots (c.find.ensures.between (done_between z p c.args.seat c.requires.seat.done)) c.find.ensures.same in (
  record { done = f.done; known = c.in_ok-id.ensures.found.0; share = f.share; room = f.room },
  same_sent p c.args.seat.me.0 c.find.new.seat.me.0 c.find.ensures.same ∙ c.requires.new,
)
