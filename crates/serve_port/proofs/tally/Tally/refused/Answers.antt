use Rattle.std.proofs.Common.{length}
use Rattle.serve_port.proofs.Tallying.{still_short, was_failed}
use Rattle.serve_port.proofs.tally.Tally.refused.Goals as goal

pub returns-in-NoMemory : goal.returns-in-NoMemory
returns-in-NoMemory c = λ served count before now k a. c.outcome.ensures served count before now k (still_short count (length served) before now c.args.fault c.in-NoMemory.is a) (λ x. absurd (cc))

pub returns-in-Failed : goal.returns-in-Failed
returns-in-Failed c = λ served count before now k a. was_failed count (length served) before now c.args.fault c.in-Failed.is a
