use Rattle.seat_states.proofs.point.Point.with_message.Goals as goal

pub returns-in-Send-default-TakeMessage-clause-program : goal.returns-in-Send-default-TakeMessage-clause-program
returns-in-Send-default-TakeMessage-clause-program c a parts bytes =
    let at_message = rw c.in-Send-default-TakeMessage.is at c.in-Send-default-TakeMessage.field-1-is in
    rw (c.in-Send-default-TakeMessage.is, at_message) (c.writes.ensures.program a c.in-Send-default-TakeMessage.field-1-0 parts bytes)
