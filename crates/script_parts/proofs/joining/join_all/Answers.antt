use Rattle.script_parts.proofs.RestingIdSeats.{all_of, joined_open}
use Rattle.script_parts.proofs.joining.join_all.Goals as goal

pub join_seats-requires-clause-seats : goal.join_seats-requires-clause-seats
join_seats-requires-clause-seats c = all_of c.args.ids.now.table.shared.table_id c.args.seats.items c.requires.seats

pub returns-clause-seat : goal.returns-clause-seat
returns-clause-seat c = joined_open c.args.ids.now.table.shared.table_id c.args.seats.items c.join_seats.result c.join_seats.ensures.seat c.join_seats.ensures.share c.requires.some

pub returns-clause-slots : goal.returns-clause-slots
returns-clause-slots c = c.join_seats.ensures.seat.1

pub returns-clause-took : goal.returns-clause-took
returns-clause-took c = record { notes = c.join_seats.ensures.lists.0; kept = c.join_seats.ensures.lists.1 }
