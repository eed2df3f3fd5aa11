use Rattle.std.proofs.Common.{◌∙◌, sym}
use Rattle.id_points.specs.IdsAndAttemptNumbers.{id_of}
use Rattle.seat_programs.specs.PostPrograms.{decided}
use Rattle.seat_states.specs.ProgramAtPoint.{posted_program, after_program}
use Rattle.seat_states.proofs.point.Point.next.Goals as goal

pub returns-in-Post-clause-program : goal.returns-in-Post-clause-program
returns-in-Post-clause-program c a sizes calling hand =
    rw c.in-Post.is (c.posted.ensures.program a ∙ c.post_next.ensures (posted_program a c.in-Post.error c.in-Post.after))

pub returns-in-Decide-clause-program : goal.returns-in-Decide-clause-program
returns-in-Decide-clause-program c a sizes calling hand =
    rw c.in-Decide.is (c.decided.ensures.program a ∙ c.decide_next.ensures a.asked (decided (id_of c.in-Decide.error.id) (after_program a c.in-Decide.after)) (sym calling.operation))

pub returns-in-Expire-clause-program : goal.returns-in-Expire-clause-program
returns-in-Expire-clause-program c a sizes calling hand =
    rw c.in-Expire.is (c.expiring.ensures.program a c.in-Expire.field-1)

pub returns-in-Release-clause-program : goal.returns-in-Release-clause-program
returns-in-Release-clause-program c a sizes calling hand = rw c.in-Release.is (c.next-in-Release.ensures.program a)
