use Rattle.std.proofs.Common.{subst, Some}
use Rattle.sock_open.specs.NewTableContents.{AreNewSeats}
use Rattle.sock_open.proofs.Racing.{popped}
use Rattle.write_chain.proofs.SeatBetweenMessages.{new_free}
use Rattle.chain_bench.proofs.AcceptedSendsOfSeat.{new_room}
use Rattle.chain_bench.proofs.crew.one_of.Goals as goal

pub returns-clause-seat : goal.returns-clause-seat
returns-clause-seat c = let z = c.args.table.now.rule.table.shared.table_id in let p = c.args.table.now.rule.plan in new_free z p c.in_ok-seat.seat (popped z p c.pop.new.self.items (Some c.in_ok-seat.seat) (subst (AreNewSeats z p) c.in_ok-seat.ensures.items c.requires)).1

pub returns-clause-left : goal.returns-clause-left
returns-clause-left c = let z = c.args.table.now.rule.table.shared.table_id in let p = c.args.table.now.rule.plan in (popped z p c.pop.new.self.items (Some c.in_ok-seat.seat) (subst (AreNewSeats z p) c.in_ok-seat.ensures.items c.requires)).0

pub returns-clause-room : goal.returns-clause-room
returns-clause-room c = let z = c.args.table.now.rule.table.shared.table_id in let p = c.args.table.now.rule.plan in new_room z p c.in_ok-seat.seat (popped z p c.pop.new.self.items (Some c.in_ok-seat.seat) (subst (AreNewSeats z p) c.in_ok-seat.ensures.items c.requires)).1
