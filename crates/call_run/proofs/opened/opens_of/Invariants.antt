use Rattle.std.proofs.Common.{◌≡◌, ◌+◌}
use Rattle.std.specs.VecDeque.Iter.{deque_iter_rest}
use Rattle.call_run.specs.Threads.{opens_of}
use Rattle.call_run.proofs.opened.opens_of.Given as goal

abbrev pub invariant-opens : goal.invariant-opens
invariant-opens l = l.count + opens_of (deque_iter_rest l.task-iterator) ≡ opens_of l.fn.tasks.items
