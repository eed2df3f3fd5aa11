use Rattle.std.proofs.Common.{◌∙◌, ap}
use Rattle.seat_states.specs.ProgramAtPoint.{refused_program}
use Rattle.seat_states.proofs.ProgramBehindSteps.{refused}
use Rattle.seat_states.proofs.point.AfterStep.refused.Goals as goal

pub returns-clause-program : goal.returns-clause-program
returns-clause-program c a call how none is =
    c.telling.ensures.program a ∙ ap (refused_program a c.args.self) is ∙ refused a call c.args.self how none
