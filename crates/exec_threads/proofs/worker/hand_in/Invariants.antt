use Rattle.exec_threads.specs.LinesDone.{tasks_by}
use Rattle.exec_threads.proofs.worker.hand_in.Given as goal

abbrev pub ghost-submit : goal.ghost-submit
ghost-submit g a = tasks_by a.by.now
