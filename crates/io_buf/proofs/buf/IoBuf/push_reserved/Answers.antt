use Rattle.std.proofs.Common.{List, [], ◌∷◌, ◌++◌, map, length, arith, ap, ◌∙◌, length-append}
use Rattle.std.proofs.lemmas.List.{map_push}
use Rattle.std.proofs.lemmas.List.Elements.{All-push, All-same}
use Rattle.std.specs.List.{concat}
use Rattle.io_buf.proofs.PieceLists.{concat_push, length-concat-le}
use Rattle.io_buf.specs.Buffer.{Buffer, IsPiece}
use Rattle.io_buf.proofs.buf.IoBuf.push_reserved.Goals as goal

pub overflow_add-self : goal.overflow_add-self
overflow_add-self c =
    omega (
      arith,
      c.requires.room,
      c.requires.piece,
      c.len.ensures,
      c.self.invariant.len,
      c.self.invariant.few,
      c.self.invariant.fits,
      length-concat-le c.self.inside.pieces.items c.self.invariant.pieces,
      ap (λ (b : Buffer). b.spare) c.self.view_is,
    )

pub invariant_of-self : goal.invariant_of-self
invariant_of-self c =
    let old = c.self.inside.pieces.items in
    record {
      pieces = All-same IsPiece _ _ c.push_back_reserved.ensures.items (All-push IsPiece old c.args.piece c.self.invariant.pieces c.requires.piece);
      len = omega (
        arith,
        c.self.invariant.len,
        c.len.ensures,
        ap (λ (ps : List _). length (concat ps)) c.push_back_reserved.ensures.items,
        ap length (concat_push old c.args.piece),
        length-append (concat old) c.args.piece,
      );
      few = omega (arith, c.self.invariant.few, c.push_back_reserved.ensures.capacity);
      fits = omega (arith, ap length c.push_back_reserved.ensures.items, length-append old (c.args.piece ∷ []), c.push_back_reserved.ensures.capacity, c.requires.room, ap (λ (b : Buffer). b.spare) c.self.view_is);
    }

pub returns : goal.returns
returns c =
    let old = c.self.inside.pieces.items in
    record {
      items = ap concat c.push_back_reserved.ensures.items ∙ concat_push old c.args.piece ∙ ap (λ (b : Buffer). b.items ++ c.args.piece) c.self.view_is;
      sizes = ap (map length) c.push_back_reserved.ensures.items ∙ map_push length old c.args.piece
          ∙ ap (λ (b : Buffer). b.sizes ++ length c.args.piece ∷ []) c.self.view_is;
      spare = omega (arith, ap length c.push_back_reserved.ensures.items, length-append old (c.args.piece ∷ []), c.push_back_reserved.ensures.capacity, c.requires.room, ap (λ (b : Buffer). b.spare) c.self.view_is);
    }
