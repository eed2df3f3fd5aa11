use Rattle.seat_states.specs.declared.point.Attempt.{Attempt}
use Rattle.seat_states.proofs.AsidesAndAttempts.{begins_as}
use Rattle.seat_states.proofs.point.CallStep.next.Goals as goal

pub returns-in-StoreCall-clause-program : goal.returns-in-StoreCall-clause-program
returns-in-StoreCall-clause-program c a calling ids =
    let t : Attempt = record { operation = c.args.calling.operation; id = c.in-StoreCall.id; number = c.new.result } in
    rw (c.to.ensures, c.in-StoreCall.is) (begins_as a t c.in-StoreCall.socket calling.operation c.new.ensures)
