use Rattle.std.proofs.Common.{◌≡◌, ◌≤◌, ◌++◌, length, drop}
use Rattle.std.specs.Vec.{vec_capacity}
use Rattle.call_run.specs.Threads.{opened_names}
use Rattle.call_run.proofs.opened.opened_names.Given as goal

abbrev pub invariant-names : goal.invariant-names
invariant-names l = record {
  names : l.names.items ++ opened_names l.told (drop l.opening-index l.openings) ≡ opened_names l.told l.openings;
  few : length l.names.items ≤ l.opening-index;
  capacity : vec_capacity l.names ≡ length l.openings;
}
