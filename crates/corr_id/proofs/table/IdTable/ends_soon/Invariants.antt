use Rattle.std.proofs.Common.{◌≡◌}
use Rattle.corr_id.specs.SeatBehindIdCalls.{Quiet}
use Rattle.corr_id.proofs.table.IdTable.ends_soon.Given as goal

abbrev pub invariant-looks : goal.invariant-looks
invariant-looks g l = record { same_table : l.seat.table_id ≡ l.fn.seat.table_id; same_id : l.seat.id ≡ l.fn.seat.id; same_slots : l.seat.me.1 ≡ l.fn.seat.me.1; quiet : Quiet l.fn.seat.me.0 l.seat.me.0 }
