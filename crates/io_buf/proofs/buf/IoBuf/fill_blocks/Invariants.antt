use Rattle.std.proofs.Common.{◌≡◌, ◌-◌, ◌≤◌, ◌++◌, length, drop}
use Rattle.io_buf.specs.Buffer.{block_sizes}
use Rattle.io_buf.proofs.buf.IoBuf.fill_blocks.Given as goal

abbrev pub invariant-loop-at : goal.invariant-loop-at
invariant-loop-at l = record {
  at : l.at ≤ length l.bytes;
  items : l.self.items ++ drop l.at l.bytes ≡ l.fn.self.items ++ l.bytes;
  sizes : l.self.sizes ++ block_sizes (length l.bytes - l.at) ≡ l.fn.self.sizes ++ block_sizes (length l.bytes);
}

abbrev pub decreases-loop-at : goal.decreases-loop-at
decreases-loop-at l = length l.bytes - l.at
