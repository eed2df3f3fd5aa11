use Rattle.seat_states.proofs.point.Point.put_answered.Goals as goal

pub returns-clause-program : goal.returns-clause-program
returns-clause-program c a e =
    let at_put = rw c.in-Write-default-Put.is at c.in-Write-default-Put.field-1-is in
    rw (c.to.ensures, c.in-Write-default-Put.is, at_put) (c.put_answered.ensures a c.in-Write-default-Put.writer c.in-Write-default-Put.field-1-1 e)
