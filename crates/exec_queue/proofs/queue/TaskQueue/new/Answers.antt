use Rattle.std.proofs.Common.{Some, sym, subst}
use Rattle.sock_open.specs.NewTableContents.{AreNewSeats}
use Rattle.sock_open.proofs.Racing.{popped}
use Rattle.sock_words.specs.declared.plain.Plan.{Plan}
use Rattle.exec_queue.proofs.queue.TaskQueue.new.Goals as goal

pub born-id-requires-clause-seat : goal.born-id-requires-clause-seat
born-id-requires-clause-seat g c = let m = c.in-Ok-new_table in let z = m.made.table.rule.table.shared.table_id in let p = m.made.table.rule.plan in
    (popped z p c.pop.new.self.items (Some c.in-Some.first) (subst (AreNewSeats z p) c.in-Some.ensures.items (subst (λ (q : Plan). AreNewSeats z q m.made.seats.items) (sym m.ensures.plan) m.ensures.made.seats_are))).1

pub find_each-requires-clause-seats : goal.find_each-requires-clause-seats
find_each-requires-clause-seats g c = let m = c.in-Ok-new_table in let z = m.made.table.rule.table.shared.table_id in let p = m.made.table.rule.plan in
    (popped z p c.pop.new.self.items (Some c.in-Some.first) (subst (AreNewSeats z p) c.in-Some.ensures.items (subst (λ (q : Plan). AreNewSeats z q m.made.seats.items) (sym m.ensures.plan) m.ensures.made.seats_are))).0
