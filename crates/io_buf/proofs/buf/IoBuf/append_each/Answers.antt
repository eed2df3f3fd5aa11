use Rattle.std.proofs.Common.{◌≡◌, ℕ, List, ◌++◌, map, length, ◌∙◌, ap}
use Rattle.std.proofs.lemmas.Result.{on_ok_weaker}
use Rattle.io_buf.specs.Buffer.{Buffer, front_sizes}
use Rattle.io_buf.proofs.ReferenceSizesAtEnds.{front_sizes-whole}
use Rattle.io_buf.proofs.buf.IoBuf.append_each.Goals as goal

pub returns-clause-sizes : goal.returns-clause-sizes
returns-clause-sizes c =
    let ps = c.other.inside.pieces.items in
    let whole : front_sizes c.other.inside.len (map length ps) ≡ c.args.other.now.sizes = ap (λ (n : ℕ). front_sizes n (map length ps)) c.other.invariant.len ∙ front_sizes-whole ps c.other.invariant.pieces ∙ ap (λ (b : Buffer). b.sizes) c.other.view_is in
    on_ok_weaker c.add_front.result (λ e.
    e
    ∙ ap (λ (l : List ℕ). l ++ front_sizes c.other.inside.len (map length ps)) c.in_ok-reserve_refs.ensures.sizes
    ∙ ap (λ (l : List ℕ). c.args.self.now.sizes ++ l) whole) c.add_front.ensures.sizes
