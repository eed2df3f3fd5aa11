use Rattle.chain_core.proofs.ChainKeptRules.{queues, rights}
use Rattle.chain_core.proofs.steps.swap_head.Goals as goal

pub returns-clause-keeps_busy : goal.returns-clause-keeps_busy
returns-clause-keeps_busy c low i = queues i c.args.own.0 c.args.found low

pub returns-clause-keeps_idle : goal.returns-clause-keeps_idle
returns-clause-keeps_idle c high i = rights i c.args.own.0 c.args.found high
