use Rattle.seat_states.proofs.ProgramBehindSteps.{claims}
use Rattle.seat_states.proofs.point.Sending.next.Goals as goal

pub returns-then-found-eq0-clause-program : goal.returns-then-found-eq0-clause-program
returns-then-found-eq0-clause-program c a e =
    rw (c.to.ensures, c.in-Claim.is) (claims a c.args.self c.in-Claim.request c.args.found c.pack-own.result c.if-found-eq0.true c.pack-own.ensures.word)
