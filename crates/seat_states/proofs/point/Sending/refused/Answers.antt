use Rattle.std.proofs.Common.{refl}
use Rattle.seat_states.proofs.point.Sending.refused.Goals as goal

pub returns-in-Send-clause-program : goal.returns-in-Send-clause-program
returns-in-Send-clause-program c a = rw (c.releasing.ensures, c.in-Send.is, c.slot-slot.ensures) refl

pub returns-in-Attempt-clause-program : goal.returns-in-Attempt-clause-program
returns-in-Attempt-clause-program c a = rw (c.posting.ensures, c.error.ensures, c.in-Attempt.is, c.slot-slot.ensures) refl
