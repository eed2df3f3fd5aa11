use Rattle.std.proofs.Common.{arith}
use Rattle.std.proofs.lemmas.Grind.{common_steps}
use Rattle.pb_wire.proofs.Groups.{followed}
use Rattle.pb_wire.proofs.varint.count_followed.Goals as goal
use Rattle.pb_wire.proofs.varint.count_followed.Goals.{then-i-eq-MOST_BYTES-via-then-i-eq-MOST_BYTES, then-i-eq-MOST_BYTES-via-else-i-eq-MOST_BYTES+then-byte-lt128}

pub returns-then-i-eq-MOST_BYTES : goal.returns-then-i-eq-MOST_BYTES
returns-then-i-eq-MOST_BYTES c =
    followed 10 c.args.bytes.now c.loop-i.i (omega arith) c.loop-i.invariant.0 c.loop-i.invariant.1
    (elim c.then-i-eq-MOST_BYTES.branch [
      | then-i-eq-MOST_BYTES-via-then-i-eq-MOST_BYTES w ↦ λ short h. absurd (omega (arith, short, w.if-i-eq-MOST_BYTES.true))
      | then-i-eq-MOST_BYTES-via-else-i-eq-MOST_BYTES+then-byte-lt128 w ↦ λ short h. grind (arith, common_steps, w.if-byte-lt128.true)
    ])

pub returns : goal.returns
returns c = followed 10 c.args.bytes.now _ (omega arith) (omega arith) (λ k h. c.loop-i.invariant.1 k (omega (arith, h))) (λ short h. absurd (omega (arith, h)))
