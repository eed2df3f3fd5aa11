use Rattle.std.proofs.Common.{sym, ◌∙◌, refl}
use Rattle.seat_states.proofs.ProgramBehindSteps.{attempts_gone}
use Rattle.seat_states.proofs.point.AttemptStep.next.Goals as goal

pub returns-else-version-clause-program : goal.returns-else-version-clause-program
returns-else-version-clause-program c a =
    rw (c.releasing.ensures, c.slot.ensures, c.in-AddRef.is)
    (attempts_gone a c.args.attempt c.args.socket c.args.found (λ e. c.if-version.false (c.version.ensures ∙ e ∙ sym c.version-in-AddRef.ensures)))

pub returns-in-StoreAt-clause-program : goal.returns-in-StoreAt-clause-program
returns-in-StoreAt-clause-program c a = rw (c.looks.ensures, c.in-StoreAt.is) refl
