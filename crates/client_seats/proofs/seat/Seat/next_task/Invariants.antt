use Rattle.std.proofs.Common.{◌≡◌, length, false, []}
use Rattle.client_seats.specs.ClientSeatState.{lives}
use Rattle.client_seats.proofs.GoingOn.{Passed}
use Rattle.client_seats.proofs.seat.Seat.next_task.Given as goal

-- what is left is as before, but for the outcomes that were told
abbrev pub invariant-loop-task : goal.invariant-loop-task
invariant-loop-task l = record {
  stays : l.self.leaving ≡ false;
  none : l.self.waiting.items ≡ [];
  passed : Passed l.sizes (lives l.fn.self.held.items) l.fn.self.tasks.items l.fn.outcomes (lives l.self.held.items) l.self.tasks.items l.outcomes;
}

abbrev pub decreases-loop-task : goal.decreases-loop-task
decreases-loop-task l = length l.self.tasks.items
