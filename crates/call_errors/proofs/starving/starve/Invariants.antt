use Rattle.std.proofs.Common.{[], true, length}
use Rattle.call_errors.specs.ClientBooks.{CallStand, stand_of, KeepsSeat}
use Rattle.call_errors.specs.Starving.{AllGivenUp}
use Rattle.call_errors.proofs.starving.starve.Given as goal

abbrev pub invariant-retries : goal.invariant-retries
invariant-retries g l = record {
  keeps : KeepsSeat l.ids.table.shared.table_id l.fn.calls l.calls;
  on : (t : CallStand) → AllGivenUp l.ids.plan.slots l.waiting.items (stand_of l.calls) t → AllGivenUp l.ids.plan.slots l.fn.calls.retries.items (record { view = l.fn.calls.seat.me.0; books = record { retries = []; told = l.fn.calls.told.items; starved = true } }) t;
}

abbrev pub decreases-retries : goal.decreases-retries
decreases-retries g l = length l.waiting.items
