use Rattle.std.proofs.Common.{◌≡◌, ◌==◌, false, refl, arith}
use Rattle.std.proofs.lemmas.Bool.Decides.{nat_tests}
use Rattle.id_points.specs.IdsAndAttemptNumbers.{id_of}
use Rattle.seat_states.proofs.point.Author.told.Goals as goal

pub returns-else-code-eq0 : goal.returns-else-code-eq0
returns-else-code-eq0 c parts next =
    let owner : (id_of c.in-Attempt.attempt.id == 0) ≡ false = grind (arith, nat_tests, c.number.ensures, c.if-number-eq0.false) in
    let code : (c.args.code == 0) ≡ false = grind (arith, nat_tests, c.if-code-eq0.false) in
    rw (c.error-else-code-eq0.ensures, c.in-Attempt.is, owner, code) refl
