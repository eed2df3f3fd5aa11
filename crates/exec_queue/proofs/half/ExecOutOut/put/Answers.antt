use Rattle.std.proofs.Common.{sym, ap, ◌∙◌, arith}
use Rattle.exec_queue.specs.Tasks.{tasks_upto}
use Rattle.exec_queue.proofs.TasksOfBytes.{upto_stays}
use Rattle.exec_queue.proofs.half.ExecOutOut.put.Goals as goal

pub run_whole-self-inside-requires-clause-ran : goal.run_whole-self-inside-requires-clause-ran
run_whole-self-inside-requires-clause-ran g c = c.self.invariant.4 ∙ sym (ap (tasks_upto c.self.inside.read) (c.deref.ensures.value ∙ c.in-Ok.ensures.items) ∙ upto_stays c.self.inside.read c.self.inside.taken.items _ (omega (arith, c.self.invariant.2)))
