use Rattle.std.proofs.Common.{refl, arith}
use Rattle.id_points.specs.IdsAndAttemptNumbers.{id_of, number_of}
use Rattle.client_seats.specs.declared.seat.Seat.{Seat}
use Rattle.client_seats.specs.ClientSeatState.{retries, around, seat_data}
use Rattle.client_seats.proofs.GoingOn.{leaves_on, retries_on, removed_first}
use Rattle.client_seats.proofs.seat.Seat.go_on.Goals as goal

pub returns-then-self : goal.returns-then-self
returns-then-self c =
    let seat : Seat = record c.args.self.now { held = c.give_back-self.new.held; point = c.give_back-self.result } in
    let a = around c.args.sizes (seat_data seat) in
    leaves_on c.args.sizes (seat_data c.args.self.now) (seat_data seat) a c.give_back-self.result _ c.if-self.true refl refl (c.give_back-self.ensures a (rw c.if-self.true refl) refl)

pub returns-else-is_empty : goal.returns-else-is_empty
returns-else-is_empty c =
    let seat : Seat = record c.args.self.now { waiting = c.remove-oldest.new.self; point = c.point-self.result } in
    retries_on c.args.sizes (seat_data c.args.self.now) (seat_data seat) (record { id = id_of c.remove-oldest.result.id; attempt = number_of c.remove-oldest.result.attempt }) (retries c.remove-oldest.new.self.items) _
    c.if-self.false
    (removed_first c.args.self.now.waiting.items c.remove-oldest.result c.remove-oldest.new.self.items c.remove-oldest.ensures.value (omega (arith, c.args.self.now.waiting.ok)) c.remove-oldest.ensures.items)
    refl
    (c.point-self.ensures (around c.args.sizes (seat_data seat)))
