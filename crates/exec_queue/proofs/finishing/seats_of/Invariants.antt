use Rattle.std.proofs.Common.{◌≡◌, ◌≤◌, ◌++◌, length, map}
use Rattle.std.specs.Vec.{vec_len, vec_capacity}
use Rattle.exec_queue.proofs.finishing.seats_of.Given as goal

abbrev pub invariant-loop-submitter : goal.invariant-loop-submitter
invariant-loop-submitter g l = record {
  all : l.yielded ++ l.submitter-iterator.rest.items ≡ l.fn.submitters.items;
  seats : l.seats.items ≡ map (λ s. s.seat) l.yielded;
  count : vec_len l.seats ≡ length l.yielded;
  room : length l.fn.submitters.items ≤ vec_capacity l.seats;
}
