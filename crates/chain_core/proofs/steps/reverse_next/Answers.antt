use Rattle.chain_core.proofs.ChainKeptRules.{turns}
use Rattle.chain_core.proofs.steps.reverse_next.Goals as goal

pub returns-clause-keeps : goal.returns-clause-keeps
returns-clause-keeps c r = turns r c.args.value c.args.found
