use Rattle.std.proofs.Common.{subst, Some}
use Rattle.sock_open.specs.NewTableContents.{AreNewSeats}
use Rattle.sock_open.proofs.Racing.{popped}
use Rattle.sock_open.proofs.SeatsOfNewTable.{new_done}
use Rattle.table_bench.proofs.pairs.one_of.Goals as goal

pub returns-clause-seat : goal.returns-clause-seat
returns-clause-seat c = let z = c.args.table.now.rule.table.shared.table_id in let p = c.args.table.now.rule.plan in new_done z p c.in_ok-seat.seat (popped z p c.pop.new.self.items (Some c.in_ok-seat.seat) (subst (AreNewSeats z p) c.in_ok-seat.ensures.items c.requires)).1

pub returns-clause-left : goal.returns-clause-left
returns-clause-left c = let z = c.args.table.now.rule.table.shared.table_id in let p = c.args.table.now.rule.plan in (popped z p c.pop.new.self.items (Some c.in_ok-seat.seat) (subst (AreNewSeats z p) c.in_ok-seat.ensures.items c.requires)).0
