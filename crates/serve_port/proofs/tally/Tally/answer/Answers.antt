use Rattle.std.proofs.Common.{length}
use Rattle.serve_port.proofs.Tallying.{all_accepted, was_refused}
use Rattle.serve_port.proofs.tally.Tally.answer.Goals as goal

pub returns-in-Ok : goal.returns-in-Ok
returns-in-Ok c = λ served count before now k a. let b = all_accepted count (length served) before now c.args.accepted c.in-Ok.field-0 c.in-Ok.is a in c.outcome.ensures served count before now k b.1 (λ x. b.0)

pub returns-in-Err : goal.returns-in-Err
returns-in-Err c = λ served count before now k a. c.refused.ensures served count before now k (was_refused count (length served) before now c.args.accepted c.in-Err.fault c.in-Err.is a)
