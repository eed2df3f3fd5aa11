use Rattle.seat_states.proofs.ProgramBehindSteps.{recycles}
use Rattle.seat_states.proofs.point.ReleaseStep.behind.Goals as goal

pub returns-then-found-from-clause-program : goal.returns-then-found-from-clause-program
returns-then-found-from-clause-program c i k = rw (c.in-Recycle.is, c.version.ensures) (recycles i k c.in-Recycle.from c.args.found cc)
