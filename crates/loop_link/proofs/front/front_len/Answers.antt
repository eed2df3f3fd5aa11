use Rattle.std.proofs.Common.{◌≡◌, ℕ, ◌+◌, ◌-◌, List, length, arith, take, drop, ap, ◌∙◌, subst}
use Rattle.brpc_model.specs.Frame.{high_first}
use Rattle.loop_link.proofs.FrameFrontsBySize.{Fronts, fronts_next, fronts_whole, fronts_end, slice_rest}
use Rattle.loop_link.proofs.front.front_len.Goals as goal

told : (bytes : List ℕ) (at size : ℕ) → size ≡ high_first (take 4 (drop 4 (take (length bytes - at) (drop at bytes)))) → size ≡ high_first (take 4 (drop 4 (drop at bytes)))
told bytes at size e = e ∙ ap (λ l. high_first (take 4 (drop 4 l))) (slice_rest bytes at)

-- a body that isn't there belongs to no frame
pub returns-then-size-bytes-clause-front : goal.returns-then-size-bytes-clause-front
returns-then-size-bytes-clause-front c frames small are =
    let whole = fronts_whole c.args.bytes.now c.loop-left.at (c.args.count - c.loop-left.left) c.body_len-size.result c.loop-left.invariant.fronts (omega arith) (told c.args.bytes.now c.loop-left.at c.body_len-size.result c.body_len-size.ensures) frames small are in
    absurd (omega (arith, whole))

pub loop-left-preserved : goal.loop-left-preserved
loop-left-preserved c = record {
  within = omega arith;
  few = omega arith;
  fronts =
      let one : c.args.count - c.loop-left.left + 1 ≡ c.args.count - (c.loop-left.left - 1) = omega arith in
      subst (λ k. Fronts c.args.bytes.now (c.loop-left.at + (12 + c.body_len-size.result)) k) one
      (fronts_next c.args.bytes.now c.loop-left.at (c.args.count - c.loop-left.left) c.body_len-size.result c.loop-left.invariant.fronts (omega arith) (told c.args.bytes.now c.loop-left.at c.body_len-size.result c.body_len-size.ensures));
}

pub returns-else-bytes-at-ge-HEADER_BYTES-clause-front : goal.returns-else-bytes-at-ge-HEADER_BYTES-clause-front
returns-else-bytes-at-ge-HEADER_BYTES-clause-front c =
    fronts_end c.args.bytes.now c.loop-left.at (c.args.count - c.loop-left.left) c.args.count c.loop-left.invariant.fronts (omega arith) (omega arith)
