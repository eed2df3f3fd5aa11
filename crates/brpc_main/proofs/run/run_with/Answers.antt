use Rattle.brpc_main.proofs.AnswersOfSameNumber.{answered}
use Rattle.brpc_main.proofs.run.run_with.Goals as goal

pub returns-clause-answers : goal.returns-clause-answers
returns-clause-answers g c = answered _ _ _ _ _ _ c.ended.ensures.code c.further-status.ensures.answers
