use Rattle.std.proofs.Common.{◌≤◌, ◌-◌}
use Rattle.io_block.specs.declared.pool.TheConstants.{BLOCK_BYTES}
use Rattle.io_buf.proofs.buf.IoBuf.last_bytes.Given as goal

abbrev pub invariant-loop-count : goal.invariant-loop-count
invariant-loop-count l = record {
  block : l.size ≤ BLOCK_BYTES;
}

abbrev pub decreases-loop-count : goal.decreases-loop-count
decreases-loop-count l = l.refs - l.count
