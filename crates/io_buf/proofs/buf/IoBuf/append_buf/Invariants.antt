use Rattle.std.proofs.Common.{◌≡◌, ◌+◌, ◌≤◌, ◌++◌, length}
use Rattle.io_buf.proofs.buf.IoBuf.append_buf.Given as goal

abbrev pub invariant-loop-piece : goal.invariant-loop-piece
invariant-loop-piece l = record {
  items : l.self.items ++ l.other.items ≡ l.fn.self.items ++ l.fn.other.items;
  sizes : l.self.sizes ++ l.other.sizes ≡ l.fn.self.sizes ++ l.fn.other.sizes;
  spare : l.self.spare + length l.fn.other.sizes ≡ l.fn.self.spare + length l.other.sizes;
  room : length l.other.sizes ≤ l.self.spare;
}

abbrev pub decreases-loop-piece : goal.decreases-loop-piece
decreases-loop-piece l = length l.other.sizes
