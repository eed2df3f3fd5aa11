use Rattle.std.proofs.Common.{◌≡◌, ◌+◌, ◌≤◌, ◌++◌, length}
use Rattle.std.specs.Vec.{vec_len, vec_capacity}
use Rattle.exec_queue.specs.NewQueue.{AreNewFrom}
use Rattle.exec_threads.specs.ScriptDone.{AreWaiting}
use Rattle.exec_threads.proofs.run.workers_of.Given as goal

abbrev pub invariant-loop-by : goal.invariant-loop-by
invariant-loop-by g l = record {
  all : l.yielded ++ l.by-iterator.rest.items ≡ l.fn.submitters.items;
  waiting : AreWaiting l.queue l.ops (length l.fn.submitters.items) l.workers.items;
  rest : AreNewFrom l.queue (length l.workers.items + 1) l.by-iterator.rest.items;
  long : length l.workers.items ≡ length l.yielded;
  count : vec_len l.workers ≡ length l.yielded;
  room : length l.fn.submitters.items ≤ vec_capacity l.workers;
}
