use Rattle.std.proofs.Common.{◌∙◌, ap}
use Rattle.std.proofs.Math.Path.{fun_ext}
use Rattle.seat_programs.specs.SendAndWritePrograms.{one_more, passed_telling}
use Rattle.seat_states.specs.ProgramAtPoint.{holder_of, written_program}
use Rattle.seat_states.proofs.point.Writer.dropped.Goals as goal

pub returns-clause-program : goal.returns-clause-program
returns-clause-program c a found =
    c.passed.ensures.program a
    ∙ ap (λ tells. passed_telling (one_more (holder_of c.args.self.holder)) c.args.current.ticket.0 tells (written_program a c.args.self)) (fun_ext (c.told.ensures a.left_parts))
