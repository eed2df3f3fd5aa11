use Rattle.std.proofs.Common.{◌≡◌, ◌*◌, ◌≤◌, ◌-◌, length}
use Rattle.exec_queue.specs.Tasks.{tasks_upto}
use Rattle.exec_queue.proofs.half.run_whole.Given as goal

abbrev pub invariant-loop-read : goal.invariant-loop-read
invariant-loop-read g l = record {
  inside : 16 * l.read ≤ length l.taken;
  ran : g.R.Runner.ran l.runner ≡ tasks_upto l.read l.taken;
}

abbrev pub decreases-loop-read : goal.decreases-loop-read
decreases-loop-read g l = length l.taken - 16 * l.read
