use Rattle.exec_threads.proofs.AllSubmitters.{each_waits, all_worked}
use Rattle.exec_threads.proofs.run.work_all.Goals as goal

pub work_each-requires-clause-waiting : goal.work_each-requires-clause-waiting
work_each-requires-clause-waiting g c κs within = λ k d lt. each_waits c.args.queue.now c.args.ops.now c.args.step c.args.workers.now c.requires.waiting k d lt

pub returns-clause-worked : goal.returns-clause-worked
returns-clause-worked g c = all_worked c.args.queue.now c.args.ops.now c.args.step c.args.workers.now _ c.requires.waiting c.work_each.ensures.count c.work_each.ensures.each
