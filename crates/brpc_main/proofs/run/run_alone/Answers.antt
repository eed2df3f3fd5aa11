use Rattle.brpc_main.proofs.AnswersOfSameNumber.{answered_alone}
use Rattle.brpc_main.proofs.run.run_alone.Goals as goal

pub returns-clause-answers : goal.returns-clause-answers
returns-clause-answers g c = answered_alone _ _ _ _ _ _ c.ended.ensures.code c.further_alone-status.ensures.answers
