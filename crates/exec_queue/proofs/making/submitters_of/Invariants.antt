use Rattle.std.proofs.Common.{◌≡◌, ◌+◌, ◌≤◌, length}
use Rattle.std.specs.Vec.{vec_len, vec_capacity}
use Rattle.std.specs.List.{AllByRecursion}
use Rattle.exec_queue.specs.NewQueue.{IsBeginner, AreNewFrom}
use Rattle.exec_queue.proofs.making.submitters_of.Given as goal

abbrev pub invariant-loop-seat : goal.invariant-loop-seat
invariant-loop-seat g l = record {
  seats : AllByRecursion (IsBeginner l.queue.table.rule.table.shared.table_id l.queue.table.rule.plan l.queue.id.0) l.seats.items;
  new : AreNewFrom l.queue 1 l.made.items;
  number : l.number ≡ 1 + length l.made.items;
  count : length l.made.items + length l.seats.items ≡ length l.fn.seats.items;
  few : length l.fn.seats.items ≤ 64;
  long : vec_len l.made ≡ length l.made.items;
  room : vec_capacity l.made ≡ length l.fn.seats.items;
}

abbrev pub decreases-loop-seat : goal.decreases-loop-seat
decreases-loop-seat g l = goal.left-loop-seat g l
