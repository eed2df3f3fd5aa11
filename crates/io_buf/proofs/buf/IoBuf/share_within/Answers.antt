use Rattle.std.proofs.Common.{ℕ, List, [], ◌∷◌, ◌++◌, length, ap, ◌∙◌}
use Rattle.io_buf.proofs.buf.IoBuf.share_within.Goals as goal

pub returns-clause-items : goal.returns-clause-items
returns-clause-items c = c.push_reserved.ensures.items ∙ ap (λ (l : List ℕ). l ++ c.in_ok-piece.piece) c.new-part.ensures.items ∙ c.in_ok-piece.ensures.items

pub returns-clause-sizes : goal.returns-clause-sizes
returns-clause-sizes c = c.push_reserved.ensures.sizes ∙ ap (λ (l : List ℕ). l ++ length c.in_ok-piece.piece ∷ []) c.new-part.ensures.sizes ∙ c.in_ok-piece.ensures.sizes
