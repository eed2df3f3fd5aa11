use Rattle.chain_core.proofs.ChainKeptRules.{unconnects}
use Rattle.chain_core.proofs.steps.unconnect.Goals as goal

pub returns-clause-keeps : goal.returns-clause-keeps
returns-clause-keeps c r = unconnects r c.args.found
