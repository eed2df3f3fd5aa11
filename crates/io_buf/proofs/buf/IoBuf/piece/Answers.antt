use Rattle.std.proofs.Common.{◌≡◌, ◌<◌, length, ap, subst, ◌∙◌, arith}
use Rattle.std.proofs.lemmas.List.{length-map}
use Rattle.io_buf.proofs.PieceLists.{piece_lies}
use Rattle.io_buf.specs.Buffer.{Buffer, piece_at}
use Rattle.io_buf.proofs.buf.IoBuf.piece.Goals as goal

pub returns-clause-value : goal.returns-clause-value
returns-clause-value c =
    let P : Buffer → Type 0 = λ b. c.as_slice.result.now ≡ piece_at b c.args.place in
    let within : c.args.place < length c.self.inside.pieces.items =
    omega (arith, c.requires, ap (λ (b : Buffer). length b.sizes) c.self.view_is, length-map c.self.inside.pieces.items length)
    in
    subst P c.self.view_is (c.as_slice.ensures ∙ piece_lies c.self.inside.pieces.items c.args.place c.get.result.now c.get.result.now within c.get.ensures.value)
