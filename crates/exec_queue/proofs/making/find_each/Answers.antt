use Rattle.std.proofs.Common.{[], ◌∷◌, Some, IfSome, length, length-append, arith, sym, ap, subst}
use Rattle.std.specs.List.{AllByRecursion}
use Rattle.sock_open.specs.NewTableContents.{AreNewSeats}
use Rattle.sock_open.proofs.Racing.{popped}
use Rattle.exec_queue.specs.NewQueue.{IsIdle, IsBeginner}
use Rattle.exec_queue.proofs.SeatsOfNewQueue.{all_then, found_more}
use Rattle.exec_queue.proofs.making.find_each.Goals as goal

pub find_one-all-requires-clause-seat : goal.find_one-all-requires-clause-seat
find_one-all-requires-clause-seat g c = let z = c.args.table.now.rule.table.shared.table_id in let p = c.args.table.now.rule.plan in (popped z p c.pop.new.self.items (Some c.in-Some.seat) (subst (AreNewSeats z p) c.in-Some.ensures.items c.loop-seat.invariant.seats)).1

pub loop-seat-preserved : goal.loop-seat-preserved
loop-seat-preserved g c = let z = c.args.table.now.rule.table.shared.table_id in let p = c.args.table.now.rule.plan in let inv = c.loop-seat.invariant in let e = c.push_reserved.ensures in let xs = c.loop-seat.ready.items in let x = c.find_one-all.new.seat in
    let one = ap length c.in-Some.ensures.items in let two = length-append c.pop.new.self.items (c.in-Some.seat ∷ []) in let three = ap length e.items in let four = length-append xs (x ∷ []) in record {
      seats = (popped z p c.pop.new.self.items (Some c.in-Some.seat) (subst (AreNewSeats z p) c.in-Some.ensures.items inv.seats)).0;
      idle = subst (AllByRecursion (IsIdle z p)) (sym e.items) (all_then (IsIdle z p) xs x inv.idle c.find_one-all.ensures.idle);
      found = subst (λ l. IfSome c.find_one-all.result (λ i. AllByRecursion (IsBeginner z p i.0) l)) (sym e.items) (found_more (IsBeginner z p) xs x c.loop-seat.all c.find_one-all.result inv.found c.find_one-all.ensures.found);
      count = omega (arith, inv.count, one, two, three, four);
      room = omega (arith, inv.room, one, two, e.len, e.capacity);
    }
