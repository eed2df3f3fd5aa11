use Rattle.std.proofs.Common.{◌≡◌, ℕ, List, [], ◌∷◌, ◌++◌, length, map, take, drop, ap, sym, ◌∙◌}
use Rattle.std.proofs.Math.Seq.{take-length}
use Rattle.std.proofs.lemmas.Result.{on_ok_weaker}
use Rattle.io_buf.specs.Buffer.{Buffer, front_sizes}
use Rattle.io_buf.proofs.ReferenceSizesAtEnds.{front_sizes-whole, rest_sizes-zero}
use Rattle.io_buf.proofs.buf.IoBuf.append_one.Goals as goal

pub returns-clause-items : goal.returns-clause-items
returns-clause-items c =
    let n = c.other.inside.len in
    let items = c.args.other.now.items in
    let same : n ≡ length items = c.other.invariant.len ∙ ap (λ (b : Buffer). length b.items) c.other.view_is in
    let whole : c.in_ok-piece.piece ≡ items = c.in_ok-piece.ensures.items ∙ ap (λ (k : ℕ). drop 0 (take k items)) same ∙ take-length items in
    on_ok_weaker c.push_piece.result (λ e. e ∙ ap (λ (l : List ℕ). c.args.self.now.items ++ l) whole) c.push_piece.ensures.items

pub returns-clause-sizes : goal.returns-clause-sizes
returns-clause-sizes c =
    let ps = c.other.inside.pieces.items in
    let n = c.other.inside.len in
    let sizes = c.args.other.now.sizes in
    let whole : front_sizes n sizes ≡ sizes = ap (λ (b : Buffer). front_sizes n b.sizes) (sym c.other.view_is) ∙ ap (λ (k : ℕ). front_sizes k (map length ps)) c.other.invariant.len ∙ front_sizes-whole ps c.other.invariant.pieces ∙ ap (λ (b : Buffer). b.sizes) c.other.view_is in
    let one : length c.in_ok-piece.piece ∷ [] ≡ sizes = c.in_ok-piece.ensures.sizes ∙ rest_sizes-zero _ ∙ whole in
    on_ok_weaker c.push_piece.result (λ e. e ∙ ap (λ (l : List ℕ). c.args.self.now.sizes ++ l) one) c.push_piece.ensures.sizes
