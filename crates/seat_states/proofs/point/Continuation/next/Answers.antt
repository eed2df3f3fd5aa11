use Rattle.std.proofs.Common.{refl}
use Rattle.seat_states.proofs.point.Continuation.next.Goals as goal

pub returns-in-Unreached-clause-program : goal.returns-in-Unreached-clause-program
returns-in-Unreached-clause-program c a = rw (c.posting.ensures, c.error.ensures, c.in-Unreached.is) refl
