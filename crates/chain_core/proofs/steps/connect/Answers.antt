use Rattle.chain_core.proofs.ChainKeptRules.{connects}
use Rattle.chain_core.proofs.steps.connect.Goals as goal

pub returns-clause-keeps : goal.returns-clause-keeps
returns-clause-keeps c r = connects r c.args.before.0 c.args.found
