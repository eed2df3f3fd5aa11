use Rattle.std.proofs.Common.{refl}
use Rattle.seat_states.proofs.point.Sending.full.Goals as goal

pub returns-in-Attempt-clause-program : goal.returns-in-Attempt-clause-program
returns-in-Attempt-clause-program c a = rw (c.posting.ensures, c.error.ensures, c.in-Attempt.is, c.slot-slot.ensures) refl
