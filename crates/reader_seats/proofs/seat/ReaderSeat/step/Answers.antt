use Rattle.std.proofs.Common.{◌<◌, ◌≤◌, [], sym, subst}
use Rattle.reader_points.specs.ReaderPoints.{GoesBy}
use Rattle.reader_seats.specs.InsideReaderSeat.{data_of}
use Rattle.reader_seats.specs.ReaderState.{around}
use Rattle.reader_seats.proofs.ReaderFollows.{some_room}
use Rattle.reader_seats.proofs.seat.ReaderSeat.step.Goals as goal

pub returns-clause-room : goal.returns-clause-room
returns-clause-room c link count e =
    let point = c.self.inside.point in
    let by = subst (GoesBy point) e c.step.ensures.kind in
    let room = some_room (around [] (data_of c.self.inside)) point (c.self.invariant []) by.0 in
    (subst (λ n. 0 < n) (sym by.1) room.0, subst (λ n. n ≤ 4096) (sym by.1) room.1)
