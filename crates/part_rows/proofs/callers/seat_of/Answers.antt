use Rattle.std.proofs.Common.{subst, Some}
use Rattle.sock_open.specs.NewTableContents.{AreNewSeats}
use Rattle.sock_open.proofs.Racing.{popped}
use Rattle.part_rows.proofs.callers.seat_of.Goals as goal

pub returns : goal.returns
returns c = let z = c.args.table.now.rule.table.shared.table_id in let p = c.args.table.now.rule.plan in (popped z p c.pop.new.self.items (Some c.in_ok-seat.seat) (subst (AreNewSeats z p) c.in_ok-seat.ensures.items c.requires)).1
