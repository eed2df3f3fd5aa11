use Rattle.std.proofs.Common.{◌∙◌}
use Rattle.seat_states.proofs.ProgramBehindSteps.{expires}
use Rattle.seat_states.proofs.point.AfterStep.next.Goals as goal

pub returns-clause-program : goal.returns-clause-program
returns-clause-program c a = c.telling.ensures.program a ∙ expires a c.args.self
