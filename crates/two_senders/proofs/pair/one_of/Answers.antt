use Rattle.std.proofs.Common.{subst, Some}
use Rattle.sock_open.specs.NewTableContents.{AreNewSeats}
use Rattle.sock_open.proofs.Racing.{popped}
use Rattle.write_chain.proofs.SeatBetweenMessages.{new_free}
use Rattle.chain_orders.proofs.SenderCalls.{new_sent}
use Rattle.two_senders.proofs.pair.one_of.Goals as goal

pub returns-clause-seat : goal.returns-clause-seat
returns-clause-seat g c = let z = c.args.table.now.rule.table.shared.table_id in let p = c.args.table.now.rule.plan in new_free z p c.in_ok-seat.seat (popped z p c.pop.new.self.items (Some c.in_ok-seat.seat) (subst (AreNewSeats z p) c.in_ok-seat.ensures.items c.requires)).1

pub returns-clause-new : goal.returns-clause-new
returns-clause-new g c = let z = c.args.table.now.rule.table.shared.table_id in let p = c.args.table.now.rule.plan in new_sent z p c.in_ok-seat.seat (popped z p c.pop.new.self.items (Some c.in_ok-seat.seat) (subst (AreNewSeats z p) c.in_ok-seat.ensures.items c.requires)).1

pub returns-clause-left : goal.returns-clause-left
returns-clause-left g c = let z = c.args.table.now.rule.table.shared.table_id in let p = c.args.table.now.rule.plan in (popped z p c.pop.new.self.items (Some c.in_ok-seat.seat) (subst (AreNewSeats z p) c.in_ok-seat.ensures.items c.requires)).0
