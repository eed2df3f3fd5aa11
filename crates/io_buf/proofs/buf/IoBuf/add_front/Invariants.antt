use Rattle.std.proofs.Common.{◌≡◌, ◌≤◌, ◌++◌, length, take, drop, map}
use Rattle.std.specs.List.{concat}
use Rattle.io_buf.specs.Buffer.{front_sizes}
use Rattle.io_buf.proofs.buf.IoBuf.add_front.Given as goal

abbrev pub invariant-loop-left : goal.invariant-loop-left
invariant-loop-left l = record {
  place : l.place ≤ length l.pieces.items;
  fits : l.left ≤ length (concat (drop l.place l.pieces.items));
  items : l.self.items ++ take l.left (concat (drop l.place l.pieces.items)) ≡ l.fn.self.items ++ take l.fn.n (concat l.pieces.items);
  sizes : l.self.sizes ++ front_sizes l.left (map length (drop l.place l.pieces.items)) ≡ l.fn.self.sizes ++ front_sizes l.fn.n (map length l.pieces.items);
}

abbrev pub decreases-loop-left : goal.decreases-loop-left
decreases-loop-left l = l.left
