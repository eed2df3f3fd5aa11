use Rattle.chain_core.proofs.ChainKeptRules.{frees}
use Rattle.chain_core.proofs.steps.free_request.Goals as goal

pub returns-clause-keeps : goal.returns-clause-keeps
returns-clause-keeps c r = frees r c.args.generation c.args.found c.requires
