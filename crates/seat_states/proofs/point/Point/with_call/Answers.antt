use Rattle.std.proofs.Common.{◌∙◌, ap}
use Rattle.id_points.specs.IdsAndAttemptNumbers.{id_of}
use Rattle.seat_programs.specs.PostPrograms.{decided}
use Rattle.call_points.specs.CallIdPoints.{decide_program}
use Rattle.seat_states.specs.ProgramAtPoint.{after_program}
use Rattle.seat_states.proofs.ProgramBehindSteps.{after_asked}
use Rattle.seat_states.proofs.point.Point.with_call.Goals as goal

pub returns-in-Decide-default-default-Take-clause-program : goal.returns-in-Decide-default-default-Take-clause-program
returns-in-Decide-default-default-Take-clause-program c a asked operation name =
    let e = c.in-Decide-default-default-Take.error in
    let after = c.in-Decide-default-default-Take.after in
    let at_call = rw c.in-Decide-default-default-Take.is at c.in-Decide-default-default-Take.field-2-is in
    rw (c.deciding.ensures, c.in-Decide-default-default-Take.is, at_call)
    (ap (λ q. decide_program e asked (decided (id_of e.id) q) c.with_call-step.result) (after_asked a asked after) ∙ c.with_call-step.ensures asked (decided (id_of e.id) (after_program a after)))

pub returns-in-Retry-default-TakeCall-clause-program : goal.returns-in-Retry-default-TakeCall-clause-program
returns-in-Retry-default-TakeCall-clause-program c a asked operation name =
    let at_call = rw c.in-Retry-default-TakeCall.is at c.in-Retry-default-TakeCall.field-1-is in
    rw (c.in-Retry-default-TakeCall.is, at_call) (c.with_call.ensures.program a asked)
