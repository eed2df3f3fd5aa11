use Rattle.std.proofs.Common.{rules, arith}
use Rattle.script_items.proofs.PiecesOfCutLine.{last_at}
use Rattle.script_items.proofs.words.behind_last.Goals as goal

pub returns-else-bytes-at-clause-place : goal.returns-else-bytes-at-clause-place
returns-else-bytes-at-clause-place c =
    last_at c.args.byte c.args.bytes.now c.loop-at.at c.loop-at.invariant.within c.loop-at.invariant.passed (λ h. search rules)

pub returns-after-loop-at-clause-place : goal.returns-after-loop-at-clause-place
returns-after-loop-at-clause-place c =
    last_at c.args.byte c.args.bytes.now c.loop-at.at c.loop-at.invariant.within c.loop-at.invariant.passed (λ h. absurd (omega arith))
