use Rattle.std.proofs.Common.{ℕ, List, length, take, ap, ◌∙◌, arith, length-take}
use Rattle.std.specs.Prelude.{slice_index}
use Rattle.std.proofs.lemmas.List.{take-take}
use Rattle.prpc_frame.proofs.header.header_in.Goals as goal

pub returns : goal.returns
returns c =
    let items = c.args.held.now.items in
    let size = slice_index c.args.held.now.sizes 0 in
    let long = c.first_piece-piece.ensures.size in
    let front = c.first_piece-piece.ensures.front in (
      ap (λ (l : List ℕ). take 12 l) front ∙ take-take 12 size items (omega arith),
      omega (arith, ap length front, length-take size items),
    )
