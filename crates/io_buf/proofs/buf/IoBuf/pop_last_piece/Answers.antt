use Rattle.std.proofs.Common.{◌+◌, List, Some, length, map, arith, ap, sym, ◌∙◌, length-append}
use Rattle.std.proofs.lemmas.List.{map_push}
use Rattle.std.proofs.lemmas.List.Elements.{All-pop}
use Rattle.std.specs.List.{concat}
use Rattle.io_buf.proofs.PieceLists.{concat_push}
use Rattle.io_buf.proofs.ReferenceSizesAtEnds.{front_sizes-push}
use Rattle.io_buf.specs.Buffer.{Buffer, IsPiece, front_sizes}
use Rattle.io_buf.proofs.buf.IoBuf.pop_last_piece.Goals as goal

pub overflow_sub-self : goal.overflow_sub-self
overflow_sub-self c =
    let new = c.pop_back.new.self.items in
    let piece = c.in_ok-piece.piece in
    omega (arith, c.self.invariant.len, c.len.ensures, ap (λ (ps : List (List _)). length (concat ps)) c.in_ok-piece.ensures.items, ap length (concat_push new piece), length-append (concat new) piece)

pub invariant_of-self-2 : goal.invariant_of-self-2
invariant_of-self-2 c =
    let new = c.pop_back.new.self.items in
    let piece = c.in_ok-piece.piece in
    let all = All-pop IsPiece c.self.inside.pieces.items new (Some piece) c.in_ok-piece.ensures.items c.self.invariant.pieces in
    record {
      pieces = all.0;
      len = omega (arith, c.self.invariant.len, c.len.ensures, ap (λ (ps : List (List _)). length (concat ps)) c.in_ok-piece.ensures.items, ap length (concat_push new piece), length-append (concat new) piece);
      few = omega (arith, c.self.invariant.few, c.in_ok-piece.ensures.capacity);
      fits = omega (arith, c.self.invariant.fits, c.in_ok-piece.ensures.capacity, c.in_ok-piece.ensures.cases);
    }

pub returns : goal.returns
returns c =
    let new = c.pop_back.new.self.items in
    let piece = c.in_ok-piece.piece in
    let all = All-pop IsPiece c.self.inside.pieces.items new (Some piece) c.in_ok-piece.ensures.items c.self.invariant.pieces in
    let sizes = sym (ap (λ (b : Buffer). b.sizes) c.self.view_is) ∙ ap (map length) c.in_ok-piece.ensures.items ∙ map_push length new piece in (
      all.1,
      record {
        items = sym (ap (λ (b : Buffer). b.items) c.self.view_is) ∙ ap concat c.in_ok-piece.ensures.items ∙ concat_push new piece;
        sizes = sizes;
        spare = omega (arith, ap (λ (b : Buffer). b.spare) c.self.view_is, c.in_ok-piece.ensures.capacity, c.in_ok-piece.ensures.cases, c.self.invariant.fits);
        fronts = λ m. ap (front_sizes (length (concat new) + m)) sizes ∙ front_sizes-push new m (length piece) all.0;
      },
    )
