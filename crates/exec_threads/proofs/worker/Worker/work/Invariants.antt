use Rattle.std.proofs.Common.{◌≡◌, ◌+◌, ◌-◌, ◌≤◌, length}
use Rattle.exec_threads.specs.LinesDone.{IsAtWork, own_place}
use Rattle.exec_threads.proofs.worker.Worker.work.Given as goal

abbrev pub invariant-loop-place : goal.invariant-loop-place
invariant-loop-place g l = record {
  at : IsAtWork l.queue l.ops l.step l.self;
  number : l.self.by.number ≡ l.fn.self.by.number;
  place : l.place ≡ own_place l.step l.self.by.number (length l.self.answers.items);
}

abbrev pub decreases-loop-place : goal.decreases-loop-place
decreases-loop-place g l = length l.ops - l.place
