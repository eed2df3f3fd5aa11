use Rattle.std.proofs.Common.{◌≡◌, ◌-◌, ◌<◌, ℕ}
use Rattle.corr_id.specs.SeatBehindIdCalls.{Quiet, TakenNow}
use Rattle.corr_id.proofs.table.IdTable.create.Given as goal

abbrev pub invariant-loop-at : goal.invariant-loop-at
invariant-loop-at g l = record {
  same_table : l.seat.table_id ≡ l.fn.seat.table_id;
  same_id : l.seat.id ≡ l.fn.seat.id;
  same_slots : l.seat.me.1 ≡ l.fn.seat.me.1;
  quiet : Quiet l.fn.seat.me.0 l.seat.me.0;
  tried : (i : ℕ) → i < l.at → TakenNow i l.fn.seat.me.0 l.seat.me.0;
}

abbrev pub decreases-loop-at : goal.decreases-loop-at
decreases-loop-at g l = l.slots - l.at
