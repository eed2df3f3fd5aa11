use Rattle.std.proofs.Common.{length}
use Rattle.brpc_reasons.proofs.wrong.+first_wrong.Given as goal

-- one parameter less each time
abbrev pub decreases-first_wrong : goal.decreases-first_wrong
decreases-first_wrong l = length l.parameters.now
