use Rattle.std.proofs.Common.{◌≡◌, subst, sum, length, All}
use Rattle.std.proofs.lemmas.List.Elements.{All-map}
use Rattle.io_buf.proofs.PieceLists.{sum-sizes}
use Rattle.io_buf.specs.Buffer.{Buffer, IsSize}
use Rattle.io_buf.proofs.buf.IoBuf.refs.Goals as goal

pub returns-clause-total : goal.returns-clause-total
returns-clause-total c = let P : Buffer → Type 0 = λ b. sum b.sizes ≡ length b.items in subst P c.self.view_is (sum-sizes c.self.inside.pieces.items)

pub returns-clause-each : goal.returns-clause-each
returns-clause-each c = let P : Buffer → Type 0 = λ b. All IsSize b.sizes in subst P c.self.view_is (All-map IsSize length c.self.inside.pieces.items c.self.invariant.pieces)
