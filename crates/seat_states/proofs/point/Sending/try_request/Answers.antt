use Rattle.std.proofs.Common.{◌≡◌, ◌-◌, arith}
use Rattle.seat_states.proofs.point.Sending.try_request.Goals as goal

pub returns-else-request-requests-clause-program : goal.returns-else-request-requests-clause-program
returns-else-request-requests-clause-program c a e =
    let none_left : c.args.requests - c.args.request ≡ 0 = omega arith in
    rw none_left (c.full.ensures.program a)
