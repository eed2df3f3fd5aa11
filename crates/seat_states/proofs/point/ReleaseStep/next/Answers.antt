use Rattle.std.proofs.Common.{◌∙◌}
use Rattle.seat_states.specs.ProgramAtPoint.{then_program}
use Rattle.seat_states.proofs.point.ReleaseStep.next.Goals as goal

pub returns-in-Step-clause-program : goal.returns-in-Step-clause-program
returns-in-Step-clause-program c a = rw c.releasing.ensures (c.in-Step.ensures.program c.args.slot (then_program a c.args.follows))

pub returns-in-Step-clause-hand : goal.returns-in-Step-clause-hand
returns-in-Step-clause-hand c = rw c.releasing.ensures c.in-Step.ensures.hand

pub returns-in-Done-clause-program : goal.returns-in-Done-clause-program
returns-in-Done-clause-program c a = c.next.ensures.program a ∙ c.in-Done.ensures.program c.args.slot (then_program a c.args.follows)

pub returns-in-Done-clause-hand : goal.returns-in-Done-clause-hand
returns-in-Done-clause-hand c = c.next.ensures.hand ∙ c.in-Done.ensures.hand
