use Rattle.std.proofs.Common.{refl, ap, ◌∙◌}
use Rattle.exec_queue.specs.Tasks.{tasks_of}
use Rattle.exec_queue.proofs.exec.exec_queue.Goals as goal

pub returns-in-Err-clause-back : goal.returns-in-Err-clause-back
returns-in-Err-clause-back g c = c.runner.ensures.tasks ∙ ap tasks_of (c.in-Err.ensures.back c.in-Err.field-0.out.taken refl)
