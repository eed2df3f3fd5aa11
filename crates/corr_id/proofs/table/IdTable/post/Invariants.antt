use Rattle.std.proofs.Common.{◌≡◌}
use Rattle.corr_id.specs.SeatBehindIdCalls.{Quiet, Found, FoundNow}
use Rattle.corr_id.proofs.table.IdTable.post.Given as goal

abbrev pub invariant-tries : goal.invariant-tries
invariant-tries g l = record { can_go : (goal.iterator-tries g).can_next l.iterator'; is_finite : (goal.iterator-tries g).is_finite l.iterator'; same_table : l.seat.table_id ≡ l.fn.seat.table_id; same_id : l.seat.id ≡ l.fn.seat.id; same_slots : l.seat.me.1 ≡ l.fn.seat.me.1; quiet : Quiet l.fn.seat.me.0 l.seat.me.0; found : Found l.at l.found l.seat.me.0; now : FoundNow l.at l.found l.fn.seat.me.0 l.seat.me.0 }
