use Rattle.std.proofs.Common.{List, length, arith, ap, length-append}
use Rattle.std.proofs.lemmas.List.Elements.{All-rest}
use Rattle.std.specs.List.{concat}
use Rattle.io_buf.specs.Buffer.{IsPiece}
use Rattle.io_buf.proofs.buf.IoBuf.pop_piece.Goals as goal

pub invariant_of-self-2 : goal.invariant_of-self-2
invariant_of-self-2 c =
    let new = c.pop_front.new.self.items in
    let piece = c.in_ok-piece.piece in
    record {
      pieces = All-rest IsPiece piece new _ c.in_ok-piece.ensures.items c.self.invariant.pieces;
      len = omega (arith, c.self.invariant.len, c.len.ensures, ap (λ (ps : List (List _)). length (concat ps)) c.in_ok-piece.ensures.items, length-append piece (concat new));
      few = omega (arith, c.self.invariant.few, c.in_ok-piece.ensures.capacity);
      fits = omega (arith, c.self.invariant.fits, c.in_ok-piece.ensures.capacity, c.in_ok-piece.ensures.cases);
    }
