use Rattle.std.proofs.Common.{◌≡◌, ◌^◌, ◌<◌, ◌++◌}
use Rattle.pb_wire.specs.brpc_model.specs.Wire.{varint_bytes, varint_up_to}
use Rattle.rpc_meta.proofs.front.Front.put_long.Given as goal

-- the bytes so far and the shortest varint of what is left are the whole
abbrev pub invariant-loop-rest : goal.invariant-loop-rest
invariant-loop-rest l = record {
  some : 0 < l.room;
  fits : l.rest < 128 ^ l.room;
  so_far : l.self ++ varint_up_to l.room l.rest ≡ l.fn.self ++ varint_bytes l.fn.value;
}

abbrev pub decreases-loop-rest : goal.decreases-loop-rest
decreases-loop-rest l = l.rest
