use Rattle.std.proofs.Common.{ap, arith}
use Rattle.std.specs.VecDeque.Iter.{deque_iter_rest}
use Rattle.call_run.specs.Threads.{opens_of}
use Rattle.call_run.proofs.SetupNames.{opens_few}
use Rattle.call_run.proofs.opened.opens_of.Goals as goal

pub opens-init : goal.opens-init
opens-init c = omega (arith, ap opens_of c.into_iter-task-iterator.ensures.into_iter_gives.0)

pub overflow_add-count : goal.overflow_add-count
overflow_add-count c = let i = c.opens.invariant in let one = ap opens_of c.in-Some.ensures.steps in let k = c.args.tasks.now.ok.0 in let s = c.args.tasks.now.small in let few = opens_few c.args.tasks.now.items in let e = c.opens_in-count.ensures.count in omega (arith, i, one, k, s.0, s.1, few, e)

pub opens-preserved : goal.opens-preserved
opens-preserved c = let i = c.opens.invariant in let one = ap opens_of c.in-Some.ensures.steps in let e = c.opens_in-count.ensures.count in omega (arith, i, one, e)

pub returns : goal.returns
returns c = let i = c.opens.invariant in let none_ = c.in-None.ensures.steps.0 in let few = opens_few (deque_iter_rest c.opens.task-iterator) in omega (arith, i, none_, few)
