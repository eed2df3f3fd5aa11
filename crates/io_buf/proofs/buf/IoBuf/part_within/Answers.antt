use Rattle.std.proofs.Common.{◌≡◌, ℕ, ◌-◌, ◌≤◌, List, [], ◌∷◌, length, take, drop, map, arith, ap, sym, ◌∙◌, length-take, length-drop}
use Rattle.std.proofs.lemmas.List.{length-map}
use Rattle.std.specs.Prelude.{slice_index}
use Rattle.std.specs.List.{concat}
use Rattle.io_buf.specs.Buffer.{Buffer, front_sizes, rest_sizes}
use Rattle.io_buf.proofs.PieceLoopSteps.{at_place, part_lies, part_sizes}
use Rattle.io_buf.proofs.buf.IoBuf.part_within.Goals as goal

-- the first piece, and those behind it
first_here : (c : goal.In_ok-piece) → c.self.inside.pieces.items ≡ c.get-first.result.now ∷ drop 1 c.self.inside.pieces.items
first_here c =
    let ps = c.self.inside.pieces.items in
    at_place ps 0 c.get-first.result.now (omega (arith, length-map ps length, ap (λ (b : Buffer). length b.sizes) c.self.view_is, c.requires.within.0)) c.get-first.ensures.value

fits : (c : goal.In_ok-piece) → c.args.to ≤ length c.get-first.result.now
fits c =
    omega (arith, c.requires.within.1, ap (λ (b : Buffer). slice_index b.sizes 0) c.self.view_is, ap (λ (l : List (List ℕ)). slice_index (map length l) 0) (first_here c))

pub returns-clause-items : goal.returns-clause-items
returns-clause-items c =
    let p = c.get-first.result.now in
    let ps = c.self.inside.pieces.items in
    c.in_ok-piece.ensures.ok
    ∙ part_lies p (concat (drop 1 ps)) c.args.from c.args.to (omega (arith, c.requires.some.0)) (fits c)
    ∙ ap (λ (l : List (List ℕ)). drop c.args.from (take c.args.to (concat l))) (sym (first_here c))
    ∙ ap (λ (b : Buffer). drop c.args.from (take c.args.to b.items)) c.self.view_is

pub returns-clause-sizes : goal.returns-clause-sizes
returns-clause-sizes c =
    let p = c.get-first.result.now in
    let ps = c.self.inside.pieces.items in
    let from = c.args.from in
    let to = c.args.to in
    let size : length c.in_ok-piece.piece ≡ to - from = omega (arith, ap length c.in_ok-piece.ensures.ok, length-take (to - from) (drop from p), length-drop from p, fits c) in
    ap (λ (n : ℕ). n ∷ []) size
    ∙ part_sizes (length p) from to (map length (drop 1 ps)) c.requires.some.0 (fits c)
    ∙ ap (λ (l : List (List ℕ)). rest_sizes from (front_sizes to (map length l))) (sym (first_here c))
    ∙ ap (λ (b : Buffer). rest_sizes from (front_sizes to b.sizes)) c.self.view_is
