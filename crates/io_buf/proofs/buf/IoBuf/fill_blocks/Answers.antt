use Rattle.std.proofs.Common.{◌≡◌, ℕ, ◌+◌, ◌-◌, min, List, [], ◌∷◌, ◌++◌, length, take, drop, arith, ap, sym, ◌∙◌, append_assoc, length-take, length-drop}
use Rattle.io_block.specs.declared.pool.TheConstants.{BLOCK_BYTES}
use Rattle.io_buf.specs.Buffer.{block_sizes}
use Rattle.io_buf.proofs.ReferenceSizesAtEnds.{block_sizes-step}
use Rattle.io_buf.proofs.PieceLoopSteps.{take-append-drop_on}
use Rattle.io_buf.proofs.buf.IoBuf.fill_blocks.Goals as goal

pub loop-at-preserved : goal.loop-at-preserved
loop-at-preserved c =
    let bytes = c.args.bytes.now in
    let at = c.loop-at.at in
    let t = c.min.result in
    let n = length bytes - at in
    let have = c.loop-at.self in
    let piece = take t (drop at bytes) in
    let known = c.loop-at.invariant in
    let taken : t ≡ min n BLOCK_BYTES = omega (arith, c.min.ensures) in
    let all : at + t - at ≡ t = omega arith in
    let chunk : take (at + t - at) (drop at bytes) ≡ piece = ap (λ (m : ℕ). take m (drop at bytes)) all in
    let size : length (take (at + t - at) (drop at bytes)) ≡ min n BLOCK_BYTES = omega (arith, ap length chunk, length-take t (drop at bytes), length-drop at bytes) in
    let rest : length bytes - (at + t) ≡ n - min n BLOCK_BYTES = omega arith in
    record {
      at = omega arith;
      items =
          ap (λ (l : List ℕ). l ++ drop (at + t) bytes) (c.in_ok-write_piece.ensures.items ∙ ap (λ (l : List ℕ). have.items ++ l) chunk)
          ∙ append_assoc have.items (take t (drop at bytes)) (drop (at + t) bytes)
          ∙ ap (λ (l : List ℕ). have.items ++ l) (take-append-drop_on bytes at t)
          ∙ known.items;
      sizes =
          ap (λ (l : List ℕ). l ++ block_sizes (length bytes - (at + t))) c.in_ok-write_piece.ensures.sizes
          ∙ append_assoc have.sizes (length (take (at + t - at) (drop at bytes)) ∷ []) (block_sizes (length bytes - (at + t)))
          ∙ ap (λ (m : ℕ). have.sizes ++ m ∷ block_sizes (length bytes - (at + t))) size
          ∙ ap (λ (m : ℕ). have.sizes ++ min n BLOCK_BYTES ∷ block_sizes m) rest
          ∙ ap (λ (l : List ℕ). have.sizes ++ l) (sym (block_sizes-step n (omega arith)))
          ∙ known.sizes;
    }
