use Rattle.std.proofs.Common.{◌≡◌, ◌+◌, ◌≤◌, length, take}
use Rattle.io_buf.specs.Buffer.{front_sizes}
use Rattle.io_buf.proofs.buf.IoBuf.pop_back.Given as goal

abbrev pub invariant-loop-self : goal.invariant-loop-self
invariant-loop-self l = record {
  keeps : l.keep ≤ length l.self.items;
  less : length l.self.items ≤ length l.fn.self.items;
  items : l.self.items ≡ take (length l.self.items) l.fn.self.items;
  sizes : l.self.sizes ≡ front_sizes (length l.self.items) l.fn.self.sizes;
  spare : l.self.spare + length l.self.sizes ≡ l.fn.self.spare + length l.fn.self.sizes;
}

abbrev pub decreases-loop-self : goal.decreases-loop-self
decreases-loop-self l = length l.self.items
