use Rattle.std.proofs.Common.{◌-◌, length, arith, ap}
use Rattle.io_buf.proofs.ReferenceSizesAtEnds.{front_sizes-fewer}
use Rattle.io_buf.proofs.buf.IoBuf.join_last.Goals as goal

pub push_reserved-requires-clause-room : goal.push_reserved-requires-clause-room
push_reserved-requires-clause-room c = let old = c.reserve_refs.new.self in
    omega (arith, c.in-Ok.ensures.ok, c.pop_back.ensures.spare, ap length c.pop_back.ensures.sizes, front_sizes-fewer (length old.items - c.last_bytes-size.result) old.sizes)
