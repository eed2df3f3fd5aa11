use Rattle.std.proofs.Common.{◌++◌, ap, ◌∙◌}
use Rattle.std.specs.VecDeque.Iter.{deque_iter_rest}
use Rattle.call_run.specs.Threads.{openings}
use Rattle.call_run.proofs.SetupNames.{openings_on, openings_all}
use Rattle.call_run.proofs.opened.openings.Goals as goal

pub openings-init : goal.openings-init
openings-init c = ap (λ l. l ++ openings (deque_iter_rest c.into_iter-task-iterator.result)) c.new-found.ensures.items ∙ ap openings c.into_iter-task-iterator.ensures.into_iter_gives.0

pub openings-preserved : goal.openings-preserved
openings-preserved c = openings_on c.openings.found.items c.push_opening.new.found.items (deque_iter_rest c.openings.task-iterator) (deque_iter_rest c.next.new.self) c.in-Some.task.now _ c.openings.invariant c.in-Some.ensures.steps c.in_ok-push_opening.ensures

pub returns : goal.returns
returns c = openings_all c.openings.found.items (deque_iter_rest c.openings.task-iterator) _ c.openings.invariant c.in-None.ensures.steps.0
