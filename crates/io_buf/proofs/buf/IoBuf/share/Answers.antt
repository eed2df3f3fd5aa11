use Rattle.std.proofs.Common.{◌≡◌, ℕ, map, length, ap, sym, ◌∙◌}
use Rattle.std.proofs.lemmas.Result.{IfOk-weaker}
use Rattle.io_buf.specs.Buffer.{Buffer, front_sizes, rest_sizes}
use Rattle.io_buf.proofs.ReferenceSizesAtEnds.{front_sizes-whole, rest_sizes-zero}
use Rattle.io_buf.proofs.buf.IoBuf.share.Goals as goal

pub returns-then-self-first_piece-clause-sizes : goal.returns-then-self-first_piece-clause-sizes
returns-then-self-first_piece-clause-sizes c =
    let ps = c.self.inside.pieces.items in
    let n = c.self.inside.len in
    let sizes = c.args.self.now.sizes in
    let whole : front_sizes n sizes ≡ sizes = ap (λ (b : Buffer). front_sizes n b.sizes) (sym c.self.view_is) ∙ ap (λ (k : ℕ). front_sizes k (map length ps)) c.self.invariant.len ∙ front_sizes-whole ps c.self.invariant.pieces ∙ ap (λ (b : Buffer). b.sizes) c.self.view_is in
    IfOk-weaker c.share_within.result (λ (b : Buffer). b.sizes ≡ rest_sizes 0 (front_sizes n sizes)) (λ (b : Buffer). b.sizes ≡ sizes) (λ _ e. e ∙ rest_sizes-zero _ ∙ whole) c.share_within.ensures.sizes
