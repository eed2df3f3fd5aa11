use Rattle.std.proofs.Common.{sym}
use Rattle.id_points.specs.IdsAndAttemptNumbers.{id_of}
use Rattle.seat_programs.specs.PostPrograms.{decided}
use Rattle.call_points.specs.CallIdPoints.{post_program, decide_program}
use Rattle.call_points.specs.AsideCodeSteps.{step_of}
use Rattle.seat_states.specs.ProgramAtPoint.{posted_program, after_program}
use Rattle.seat_states.proofs.AsidesAndAttempts.{in_aside}
use Rattle.seat_states.proofs.point.Point.step.Goals as goal

pub returns-in-Post : goal.returns-in-Post
returns-in-Post c a calling hand =
    let k = posted_program a c.in-Post.error c.in-Post.field-1 in
    rw c.in-Post.is (sym (in_aside (post_program c.in-Post.error k c.in-Post.step) (step_of a.asked c.post_step.result) (sym (c.post_step.ensures a.asked k))))

pub returns-in-Decide : goal.returns-in-Decide
returns-in-Decide c a calling hand =
    let k = decided (id_of c.in-Decide.error.id) (after_program a c.in-Decide.field-1) in
    rw c.in-Decide.is (sym (in_aside (decide_program c.in-Decide.error a.asked k c.in-Decide.step) (step_of a.asked c.decide_step.result) (sym (c.decide_step.ensures a.asked k))))
