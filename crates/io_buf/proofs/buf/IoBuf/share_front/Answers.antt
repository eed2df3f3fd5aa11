use Rattle.std.proofs.Common.{◌≡◌, ◌∙◌}
use Rattle.std.proofs.lemmas.Result.{IfOk-weaker}
use Rattle.io_buf.specs.Buffer.{Buffer, front_sizes, rest_sizes}
use Rattle.io_buf.proofs.ReferenceSizesAtEnds.{rest_sizes-zero}
use Rattle.io_buf.proofs.buf.IoBuf.share_front.Goals as goal

pub returns-then-n-first_piece-clause-sizes : goal.returns-then-n-first_piece-clause-sizes
returns-then-n-first_piece-clause-sizes c =
    let sizes = c.args.self.now.sizes in
    IfOk-weaker c.share_within.result (λ (b : Buffer). b.sizes ≡ rest_sizes 0 (front_sizes c.args.n sizes)) (λ (b : Buffer). b.sizes ≡ front_sizes c.args.n sizes) (λ _ e. e ∙ rest_sizes-zero _) c.share_within.ensures.sizes
