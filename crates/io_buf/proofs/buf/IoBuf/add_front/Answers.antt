use Rattle.std.proofs.Common.{◌≡◌, ℕ, ◌+◌, ◌-◌, min, List, [], ◌∷◌, ◌++◌, length, take, drop, map, arith, ap, sym, ◌∙◌, append_assoc, append-nil, length-append, length-take}
use Rattle.std.specs.List.{concat}
use Rattle.io_buf.specs.Buffer.{front_sizes}
use Rattle.io_buf.proofs.ReferenceSizesAtEnds.{front_sizes-zero}
use Rattle.io_buf.proofs.PieceLoopSteps.{place_within, at_place, take-append_min, front_sizes-step}
use Rattle.io_buf.proofs.buf.IoBuf.add_front.Goals as goal

pub loop-left-preserved : goal.loop-left-preserved
loop-left-preserved c =
    let ps = c.args.pieces.now.items in
    let i = c.loop-left.place in
    let p = c.get-piece.result.now in
    let n = c.loop-left.left in
    let t = c.min-taken.result in
    let more = drop (i + 1) ps in
    let have = c.loop-left.self in
    let known = c.loop-left.invariant in
    let within = place_within ps i n (omega arith) known.fits in
    let here = at_place ps i p within c.get-piece.ensures.value in
    let taken : t ≡ min n (length p) = omega (arith, c.min-taken.ensures, c.len.ensures) in
    let all : t - 0 ≡ t = omega arith in
    let chunk : c.in_ok-slice.field-0 ≡ take t p = c.in_ok-slice.ensures.ok ∙ ap (λ (m : ℕ). take m p) all in
    let size : length c.in_ok-slice.field-0 ≡ t = omega (arith, ap length chunk, length-take t p) in
    record {
      place = omega arith;
      fits = omega (arith, known.fits, ap (λ (l : List (List ℕ)). length (concat l)) here, length-append p (concat more));
      items =
          ap (λ (l : List ℕ). l ++ take (n - t) (concat more)) (c.in_ok-push_piece.ensures.items ∙ ap (λ (l : List ℕ). have.items ++ l) chunk)
          ∙ append_assoc have.items (take t p) (take (n - t) (concat more))
          ∙ ap (λ (l : List ℕ). have.items ++ l) (sym (ap (λ (l : List (List ℕ)). take n (concat l)) here ∙ take-append_min p (concat more) n t taken))
          ∙ known.items;
      sizes =
          ap (λ (l : List ℕ). l ++ front_sizes (n - t) (map length more)) c.in_ok-push_piece.ensures.sizes
          ∙ append_assoc have.sizes (length c.in_ok-slice.field-0 ∷ []) (front_sizes (n - t) (map length more))
          ∙ ap (λ (m : ℕ). have.sizes ++ m ∷ front_sizes (n - t) (map length more)) size
          ∙ ap (λ (l : List ℕ). have.sizes ++ l)
          (sym (ap (λ (l : List (List ℕ)). front_sizes n (map length l)) here ∙ front_sizes-step (length p) n t (map length more) (omega arith) taken))
          ∙ known.sizes;
    }

pub returns-clause-sizes : goal.returns-clause-sizes
returns-clause-sizes c =
    let rest = map length (drop c.loop-left.place c.args.pieces.now.items) in
    let none : c.loop-left.left ≡ 0 = omega arith in
    let have = c.loop-left.self.sizes in
    sym (ap (λ (n : ℕ). have ++ front_sizes n rest) none ∙ ap (λ (l : List ℕ). have ++ l) (front_sizes-zero rest) ∙ append-nil have)
    ∙ c.loop-left.invariant.sizes
