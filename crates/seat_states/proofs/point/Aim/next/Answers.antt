use Rattle.std.proofs.Common.{sym, ◌∙◌}
use Rattle.seat_states.proofs.ProgramBehindSteps.{seeks_life, seeks_none, seeks_reached}
use Rattle.seat_states.proofs.point.Aim.next.Goals as goal

pub returns-then-is_id-clause-program : goal.returns-then-is_id-clause-program
returns-then-is_id-clause-program c a = rw c.in-Load.is (seeks_life a c.args.self c.args.found cc)

pub returns-else-version-clause-program : goal.returns-else-version-clause-program
returns-else-version-clause-program c a =
    rw (c.releasing.ensures, c.gone.ensures, c.slot.ensures, c.in-AddRef.is)
    (seeks_reached a c.args.self c.in-AddRef.id c.args.found (λ e. c.if-version.false (c.version.ensures ∙ e ∙ sym c.version-in-AddRef.ensures)))

pub returns-else-is_id-clause-program : goal.returns-else-is_id-clause-program
returns-else-is_id-clause-program c a = rw c.in-Load.is (c.unopened.ensures.program a ∙ seeks_none a c.args.self c.args.found (sym c.is_id.ensures ∙ c.if-is_id.false))
