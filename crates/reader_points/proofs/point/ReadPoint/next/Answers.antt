use Rattle.std.proofs.Common.{◌∙◌}
use Rattle.id_points.specs.IdsAndAttemptNumbers.{id_of}
use Rattle.seat_programs.specs.ReaderProgram.{answered, posted_last}
use Rattle.reader_points.specs.ReaderPoints.{error_in, frames_behind, posts_program}
use Rattle.reader_points.proofs.point.ReadPoint.next.Goals as goal

pub returns-in-Open-clause-program : goal.returns-in-Open-clause-program
returns-in-Open-clause-program c a operation hand = rw c.in-Open.is (c.opened.ensures.program a (rw c.in-Open.is at hand))

pub returns-in-Lock-clause-program : goal.returns-in-Lock-clause-program
returns-in-Lock-clause-program c a operation hand =
    rw c.in-Lock.is (c.locked.ensures.program a (rw c.in-Lock.is at hand).1 ∙ c.next.ensures (answered a.frame a.kept (frames_behind a c.in-Lock.reader)))

pub returns-in-Load-clause-program : goal.returns-in-Load-clause-program
returns-in-Load-clause-program c a operation hand = rw c.in-Load.is (c.loaded.ensures.program a c.in-Load.field-1)

pub returns-in-Post-clause-program : goal.returns-in-Post-clause-program
returns-in-Post-clause-program c a operation hand =
    rw c.in-Post.is (c.posted.ensures.program a ∙ (rw c.error.ensures at (c.post_next.ensures (posted_last (id_of c.in-Post.lost.id) (error_in c.in-Post.lost) a.kept (posts_program a c.in-Post.lost.closing)))))

pub returns-in-Open-clause-hand : goal.returns-in-Open-clause-hand
returns-in-Open-clause-hand c a hand = c.opened.ensures.hand a (rw c.in-Open.is at hand)

pub returns-in-Load-clause-hand : goal.returns-in-Load-clause-hand
returns-in-Load-clause-hand c a hand = c.loaded.ensures.hand a

pub returns-in-Post-clause-hand : goal.returns-in-Post-clause-hand
returns-in-Post-clause-hand c a hand = c.posted.ensures.hand a

pub returns-in-Answer-clause-hand : goal.returns-in-Answer-clause-hand
returns-in-Answer-clause-hand c a hand = c.next-in-Answer.ensures.hand a

pub returns-in-Close-clause-hand : goal.returns-in-Close-clause-hand
returns-in-Close-clause-hand c a hand = c.next-in-Close.ensures.hand a

pub returns-in-Fail-clause-hand : goal.returns-in-Fail-clause-hand
returns-in-Fail-clause-hand c a hand = c.fail_next.ensures.hand a
