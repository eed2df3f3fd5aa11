use Rattle.std.proofs.Common.{refl}
use Rattle.client_seats.specs.ClientSeatState.{seat_data}
use Rattle.client_seats.proofs.FollowsByStepKind.{ends_on}
use Rattle.client_seats.proofs.seat.Seat.follow_flat.Goals as goal

pub returns-in-Ended : goal.returns-in-Ended
returns-in-Ended c = rw c.in-Ended.is (ends_on c.args.sizes (seat_data c.args.self.now) (seat_data c.end_next.new.self) c.args.self.now.ending.items _ (c.end_next.ensures.program c.args.sizes) (rw c.end_next.ensures.waiting refl))
