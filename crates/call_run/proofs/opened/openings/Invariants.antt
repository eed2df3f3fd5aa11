use Rattle.std.proofs.Common.{◌≡◌, ◌++◌}
use Rattle.std.specs.VecDeque.Iter.{deque_iter_rest}
use Rattle.call_run.specs.Threads.{openings}
use Rattle.call_run.proofs.opened.openings.Given as goal

abbrev pub invariant-openings : goal.invariant-openings
invariant-openings l = l.found.items ++ openings (deque_iter_rest l.task-iterator) ≡ openings l.fn.tasks.items
