use Rattle.std.proofs.Common.{◌≡◌, ◌+◌, ◌-◌, ◌^◌, ◌<◌, ◌≤◌, length}
use Rattle.brpc_model.specs.Wire.{varint_up_to}
use Rattle.pb_wire.proofs.varint.varint_size.Given as goal

-- the bytes that were counted and the shortest varint of what is left are the whole, and there is room for it
abbrev pub invariant-loop-rest : goal.invariant-loop-rest
invariant-loop-rest l = record {
  some : 1 ≤ l.size;
  short : l.size ≤ 10;
  fits : l.rest < 128 ^ (11 - l.size);
  so_far : l.size + length (varint_up_to (11 - l.size) l.rest) ≡ 1 + length (varint_up_to 10 l.value);
}

abbrev pub decreases-loop-rest : goal.decreases-loop-rest
decreases-loop-rest l = l.rest
