use Rattle.corr_id.specs.IdTableSeat.{Sits, IsFree}
use Rattle.part_rows.proofs.ids.work.Given as goal

abbrev pub invariant-loop : goal.invariant-loop
invariant-loop g l = Sits l.table.table.shared.table_id l.seat × IsFree l.seat.me.0
