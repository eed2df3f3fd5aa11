use Rattle.std.proofs.Common.{◌≡◌, ◌-◌, ◌^◌, ◌<◌, length, take, ◌++◌}
use Rattle.brpc_model.specs.Wire.{varint_up_to}
use Rattle.pb_wire.proofs.varint.write_varint.Given as goal

-- the bytes so far and the shortest varint of what is left are the whole, and there is room for it
abbrev pub invariant-loop-rest : goal.invariant-loop-rest
invariant-loop-rest l = record {
  room : length l.spelled ≡ 10;
  short : l.length < 10;
  fits : l.rest < 128 ^ (10 - l.length);
  so_far : take l.length l.spelled ++ varint_up_to (10 - l.length) l.rest ≡ varint_up_to 10 l.value;
}

abbrev pub decreases-loop-rest : goal.decreases-loop-rest
decreases-loop-rest l = l.rest
