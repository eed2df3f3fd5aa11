use Rattle.brpc_further.proofs.AnswersOfBrpc.{of_brpc_alone}
use Rattle.brpc_further.proofs.commands.further_alone.Goals as goal

pub returns-clause-answers : goal.returns-clause-answers
returns-clause-answers g c = of_brpc_alone _ _ _ _ _ _ c.usage.ensures c.brpc_alone.ensures.answers
