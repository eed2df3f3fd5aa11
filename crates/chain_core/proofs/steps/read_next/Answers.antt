use Rattle.sock_model.specs.SocketTableLayout.{next_index}
use Rattle.chain_core.proofs.ChainKeptRules.{passes, retires, reads, looks}
use Rattle.chain_core.proofs.steps.read_next.Goals as goal

pub returns-clause-keeps_written : goal.returns-clause-keeps_written
returns-clause-keeps_written c r = passes r c.args.found

pub returns-clause-keeps_retired : goal.returns-clause-keeps_retired
returns-clause-keeps_retired c r = retires r c.args.found

pub returns-clause-keeps_walk : goal.returns-clause-keeps_walk
returns-clause-keeps_walk c some_ r = reads r c.args.found some_

pub returns-clause-keeps_waiting : goal.returns-clause-keeps_waiting
returns-clause-keeps_waiting c r = looks (λ p. next_index p r) c.args.found
