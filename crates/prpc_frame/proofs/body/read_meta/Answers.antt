use Rattle.std.proofs.Common.{◌∙◌, ℕ, List, take, drop, ap, subst, arith}
use Rattle.std.specs.Prelude.{slice_index}
use Rattle.prpc_frame.specs.Body.{MetaIs}
use Rattle.prpc_frame.proofs.BodyPartsOfFrames.{meta_lies}
use Rattle.prpc_frame.proofs.body.read_meta.Goals as goal

pub returns-in-Some : goal.returns-in-Some
returns-in-Some c =
    let P : List ℕ → Type 0 = λ l. MetaIs l c.meta_of.result in
    let front = c.first_piece.ensures.front in
    let fits = c.in-Some.ensures.1 in
    let here = ap (λ (l : List ℕ). take c.args.size (drop 12 l)) front in
    subst P (c.in-Some.ensures.0 ∙ here ∙ meta_lies c.args.held.now.items (slice_index c.args.held.now.sizes 0) c.args.size (omega (arith, fits, c.first_piece.ensures.size))) c.meta_of.ensures
