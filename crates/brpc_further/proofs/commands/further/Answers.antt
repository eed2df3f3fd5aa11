use Rattle.brpc_further.proofs.AnswersOfBrpc.{of_brpc}
use Rattle.brpc_further.proofs.commands.further.Goals as goal

pub returns-clause-answers : goal.returns-clause-answers
returns-clause-answers g c = of_brpc _ _ _ _ _ _ c.usage.ensures c.brpc.ensures.answers
