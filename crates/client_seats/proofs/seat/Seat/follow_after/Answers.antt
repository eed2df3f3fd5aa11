use Rattle.client_seats.proofs.FollowsByStepKind.{after_flat, after_holds_none}
use Rattle.client_seats.proofs.seat.Seat.follow_after.Goals as goal

pub follow_flat-requires-clause-flat : goal.follow_flat-requires-clause-flat
follow_flat-requires-clause-flat c = after_flat c.args.after c.next.result c.next.ensures.program

pub follow_flat-requires-clause-room : goal.follow_flat-requires-clause-room
follow_flat-requires-clause-room c = λ o name id is. absurd (after_holds_none c.args.after c.next.result o name id c.next.ensures.program is)
