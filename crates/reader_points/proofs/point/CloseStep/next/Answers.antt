use Rattle.std.proofs.Common.{sym, ◌∙◌}
use Rattle.sock_words.specs.PackedWords.{socket_id_slot}
use Rattle.reader_points.specs.ReaderPoints.{posts_program}
use Rattle.reader_points.proofs.ReaderAfterWordSteps.{closes_gone}
use Rattle.reader_points.proofs.point.CloseStep.next.Goals as goal

pub returns-else-version-clause-program : goal.returns-else-version-clause-program
returns-else-version-clause-program c a =
    rw (c.to-else-version.ensures, c.in-AddRef.is)
    (closes_gone a c.args.closing c.args.found (λ e. c.if-version.false (c.version.ensures ∙ e ∙ sym c.version-in-AddRef.ensures)))

pub returns-in-Step-clause-program : goal.returns-in-Step-clause-program
returns-in-Step-clause-program c a =
    rw (c.to-in-Step.ensures, c.in-Release.is) (c.in-Step.ensures.program (socket_id_slot c.args.closing.reader.socket.0) (λ _. posts_program a c.args.closing))

pub returns-in-Done-clause-program : goal.returns-in-Done-clause-program
returns-in-Done-clause-program c a =
    rw c.in-Release.is (c.in-Done.ensures.program (socket_id_slot c.args.closing.reader.socket.0) (λ _. posts_program a c.args.closing))
