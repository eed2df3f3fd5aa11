use Rattle.exec_threads.specs.LinesDone.{tasks_by}
use Rattle.exec_threads.proofs.worker.halt.Given as goal

abbrev pub ghost-stop : goal.ghost-stop
ghost-stop g a = tasks_by a.by.now
