use Rattle.std.proofs.Common.{◌-◌}
use Rattle.prpc_frame.proofs.Headers.{Matches}
use Rattle.prpc_frame.proofs.header.wrong_at.Given as goal

abbrev pub invariant-loop-at : goal.invariant-loop-at
invariant-loop-at l = Matches l.front l.at

abbrev pub decreases-loop-at : goal.decreases-loop-at
decreases-loop-at l = 4 - l.at
