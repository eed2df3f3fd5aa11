use Rattle.std.proofs.Common.{◌≡◌, ◌+◌, ◌≤◌, length, IfSome}
use Rattle.std.specs.Vec.{vec_len, vec_capacity}
use Rattle.std.specs.List.{AllByRecursion}
use Rattle.sock_open.specs.NewTableContents.{AreNewSeats}
use Rattle.exec_queue.specs.NewQueue.{IsIdle, IsBeginner}
use Rattle.exec_queue.proofs.making.find_each.Given as goal

abbrev pub invariant-loop-seat : goal.invariant-loop-seat
invariant-loop-seat g l = let z = l.table.rule.table.shared.table_id in let p = l.table.rule.plan in record {
  seats : AreNewSeats z p l.seats.items;
  idle : AllByRecursion (IsIdle z p) l.ready.items;
  found : IfSome l.all (λ i. AllByRecursion (IsBeginner z p i.0) l.ready.items);
  count : length l.ready.items + length l.seats.items ≡ length l.fn.ready.items + length l.fn.seats.items;
  room : vec_len l.ready + length l.seats.items ≤ vec_capacity l.ready;
}

abbrev pub decreases-loop-seat : goal.decreases-loop-seat
decreases-loop-seat g l = goal.left-loop-seat g l
