use Rattle.corr_id.specs.IdTableSeat.{Sits, IsFree}
use Rattle.id_bench.proofs.ids.cycles.Given as goal

abbrev pub invariant-loop-round : goal.invariant-loop-round
invariant-loop-round g l = Sits l.table.table.shared.table_id l.seat × IsFree l.seat.me.0
