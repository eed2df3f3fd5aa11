use Rattle.std.proofs.Common.{◌≡◌, ◌≤◌, ◌++◌, length, map}
use Rattle.std.specs.Vec.{vec_len, vec_capacity}
use Rattle.exec_threads.proofs.run.submitters_of.Given as goal

abbrev pub invariant-loop-worker : goal.invariant-loop-worker
invariant-loop-worker g l = record {
  all : l.yielded ++ l.worker-iterator.rest.items ≡ l.fn.workers.items;
  submitters : l.submitters.items ≡ map (λ w. w.by) l.yielded;
  count : vec_len l.submitters ≡ length l.yielded;
  room : length l.fn.workers.items ≤ vec_capacity l.submitters;
}
