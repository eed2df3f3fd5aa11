use Rattle.std.proofs.Common.{refl}
use Rattle.id_points.specs.IdsAndAttemptNumbers.{id_of, number_of}
use Rattle.call_points.specs.declared.deciding.DecideStep.TheVariants as decides
use Rattle.seat_states.specs.declared.point.Point.TheVariants as points
use Rattle.seat_states.specs.ProgramAtPoint.{Context, point_program, after_program}
use Rattle.client_seats.specs.ClientSeatState.{around, seat_data}
use Rattle.client_seats.proofs.PointsAtSteps.{begun, follows_point}
use Rattle.client_seats.proofs.FollowsByStepKind.{kept_on}
use Rattle.client_seats.proofs.seat.Seat.follow_end.Goals as goal

pub returns-in-Kept : goal.returns-in-Kept
returns-in-Kept c = rw c.in-Kept.is (kept_on c.args.sizes (seat_data c.args.self.now) (seat_data c.follow_after-in-Kept.new.self) (seat_data c.keep.new.self) (record { id = id_of c.in-Kept.id; attempt = number_of c.in-Kept.attempt }) (λ (a : Context). after_program a c.in-Kept.after) _ _ c.keep.ensures c.follow_after-in-Kept.ensures)

pub returns-in-KeptWith : goal.returns-in-KeptWith
returns-in-KeptWith c =
    let point = points.Decide c.in-KeptWith.error c.in-KeptWith.after (decides.Take c.in-KeptWith.word) in
    let mid = seat_data c.keep-in-KeptWith.new.self in
    let new = record mid { point = point } in
    rw c.in-KeptWith.is (kept_on c.args.sizes (seat_data c.args.self.now) new mid (record { id = id_of c.in-KeptWith.error.id; attempt = number_of c.in-KeptWith.attempt }) (λ (a : Context). point_program a point) _ _ c.keep-in-KeptWith.ensures
    (follows_point c.args.sizes mid new (point_program (around c.args.sizes mid) point) _ (begun (around c.args.sizes mid) point) refl refl))
