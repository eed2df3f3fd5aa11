use Rattle.std.proofs.Common.{◌≡◌, ◌<◌, ℕ, Some, false}
use Rattle.std.specs.Prelude.{slice_get}
use Rattle.exec_threads.proofs.run.have_enough.Given as goal

abbrev pub invariant-loop-worker : goal.invariant-loop-worker
invariant-loop-worker g l = (k : ℕ) (w : _) → k < l.worker-index → slice_get l.workers k ≡ Some w → w.short ≡ false
