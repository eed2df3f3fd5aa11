use Rattle.std.proofs.Common.{refl, sym, ◌∙◌}
use Rattle.exec_threads.proofs.AcceptedLines.{accepted_of}
use Rattle.exec_threads.proofs.EndedScript.{own_of, tasks_are, seats_are, is_done}
use Rattle.exec_threads.proofs.run.end_queue.Goals as goal

pub finish-requires-clause-all : goal.finish-requires-clause-all
finish-requires-clause-all c = (accepted_of c.args.step c.args.ops.now 0 (own_of c.requires.worked.workers), tasks_are c.args.queue c.args.ops.now c.args.step c.args.worked c.requires.some c.requires.worked)

pub finish-requires-clause-count : goal.finish-requires-clause-count
finish-requires-clause-count c = seats_are c.args.queue c.args.ops.now c.args.step c.args.worked c.requires.some c.requires.worked ∙ sym c.requires.seats

pub returns-in-Ok : goal.returns-in-Ok
returns-in-Ok c = is_done c.args.queue c.args.ops.now c.args.step c.args.worked c.requires.some c.requires.worked _ _ c.in-Ok.ensures.ran c.in-Ok.ensures.answers refl c.accounts.ensures
