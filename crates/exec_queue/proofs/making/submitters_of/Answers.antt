use Rattle.std.proofs.Common.{◌+◌, [], ◌∷◌, false, length, length-append, arith, sym, ap, ◌∙◌, subst}
use Rattle.std.specs.List.{AllByRecursion}
use Rattle.exec_queue.specs.NewQueue.{IsBeginner, AreNewFrom}
use Rattle.exec_queue.proofs.SeatsOfNewQueue.{all_before, new_then, new_submitter}
use Rattle.exec_queue.proofs.making.submitters_of.Goals as goal

pub loop-seat-preserved : goal.loop-seat-preserved
loop-seat-preserved g c = let q = c.args.queue.now in let B = IsBeginner q.table.rule.table.shared.table_id q.table.rule.plan q.id.0 in let inv = c.loop-seat.invariant in let e = c.push_reserved.ensures in let xs = c.loop-seat.made.items in
    let one = ap length c.in-Some.ensures.items in let two = length-append c.pop.new.self.items (c.in-Some.seat ∷ []) in let three = ap length e.items in
    let k = all_before B c.pop.new.self.items c.in-Some.seat (subst (AllByRecursion B) c.in-Some.ensures.items inv.seats) in
    let four = length-append xs (record { seat = c.in-Some.seat; number = c.loop-seat.number; stops = 0; told = false; full = false } ∷ []) in record {
      seats = k.0;
      new = subst (AreNewFrom q 1) (sym e.items) (new_then q 1 xs _ inv.new (new_submitter q (1 + length xs) c.loop-seat.number c.in-Some.seat k.1 inv.number));
      number = omega (arith, inv.number, three, four);
      count = omega (arith, inv.count, one, two, three, four);
      few = inv.few;
      long = omega (arith, inv.long, e.len, three, four);
      room = e.capacity ∙ inv.room;
    }
