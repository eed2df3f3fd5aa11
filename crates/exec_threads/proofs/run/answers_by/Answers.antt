use Rattle.std.proofs.Common.{refl, sym, ap, ◌∙◌, length, arith, subst}
use Rattle.exec_threads.proofs.AllSubmitters.{has_answer}
use Rattle.exec_threads.proofs.run.answers_by.Goals as goal

pub answers_of-requires-clause-all : goal.answers_of-requires-clause-all
answers_of-requires-clause-all g c = λ place w. has_answer c.args.queue.now c.args.ops.now c.args.step c.requires.some _ (c.work_all.ensures.count ∙ c.requires.count) c.work_all.ensures.worked (c.if-not-have_enough.ensures refl) place w
