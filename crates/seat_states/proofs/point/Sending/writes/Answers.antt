use Rattle.std.proofs.Common.{refl}
use Rattle.seat_states.proofs.point.Sending.writes.Goals as goal

-- the look and the put behind it are those of the program, of which nothing is taken yet
pub returns-clause-program : goal.returns-clause-program
returns-clause-program c a request parts bytes = rw c.to.ensures refl
