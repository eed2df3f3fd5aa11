use Rattle.std.proofs.Common.{◌≡◌, ◌%◌, ◌^◌, drop}
use Rattle.brpc_model.specs.Wire.{low_first}
use Rattle.pb_wire.proofs.varint.sum_groups.Given as goal

abbrev pub invariant-loop-i : goal.invariant-loop-i
invariant-loop-i l = l.sum ≡ low_first (drop l.i l.bytes) % 2 ^ 64
