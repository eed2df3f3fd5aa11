use Rattle.std.proofs.Common.{◌∙◌, true, false, sym}
use Rattle.seat_states.proofs.ProgramBehindSteps.{passes}
use Rattle.seat_states.proofs.point.Writer.passed.Goals as goal

pub returns-then-is_last-clause-program : goal.returns-then-is_last-clause-program
returns-then-is_last-clause-program c a =
    c.gives_back.ensures.program a ∙ passes a c.args.self c.placed-writer.result c.args.now c.args.call true c.placed-writer.ensures.holder c.placed-writer.ensures.author (sym c.is_last.ensures ∙ c.if-is_last.true)

pub returns-else-is_last-clause-program : goal.returns-else-is_last-clause-program
returns-else-is_last-clause-program c a =
    rw c.to.ensures (passes a c.args.self c.placed-writer.result c.args.now c.args.call false c.placed-writer.ensures.holder c.placed-writer.ensures.author (sym c.is_last.ensures ∙ c.if-is_last.false))
