use Rattle.std.proofs.Common.{◌≡◌, ◌==◌, ◌-◌, false, refl, arith}
use Rattle.std.proofs.lemmas.Bool.Decides.{nat_tests}
use Rattle.seat_states.proofs.AsidesAndAttempts.{attempts_as}
use Rattle.seat_states.proofs.point.Retrying.next.Goals as goal

pub returns-then-found-eq0-clause-program : goal.returns-then-found-eq0-clause-program
returns-then-found-eq0-clause-program c a h = rw (c.posting.ensures, c.error.ensures, c.in-LoadName.is, c.if-found-eq0.true) refl

pub returns-else-found-eq0-clause-program : goal.returns-else-found-eq0-clause-program
returns-else-found-eq0-clause-program c a h =
    let framed = rw c.in-LoadName.is at h in
    let e : (c.args.found == 0) ≡ false = grind (arith, nat_tests, c.if-found-eq0.false) in
    rw (c.to-else-found-eq0.ensures, c.in-LoadName.is, e) (attempts_as a c.args.self.attempt (record { 0 = c.args.found - 1 }) framed.0)
