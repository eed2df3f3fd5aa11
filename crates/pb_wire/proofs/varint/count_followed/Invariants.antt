use Rattle.std.proofs.Common.{◌≡◌, ℕ, ◌<◌, ◌≤◌, true, get_or}
use Rattle.brpc_model.specs.Wire.{goes_on}
use Rattle.pb_wire.proofs.varint.count_followed.Given as goal

abbrev pub invariant-loop-i : goal.invariant-loop-i
invariant-loop-i l = (l.i ≤ 10) × ((k : ℕ) → k < l.i → goes_on (get_or l.bytes k 0) ≡ true)
