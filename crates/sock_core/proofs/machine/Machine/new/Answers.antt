use Rattle.std.proofs.Common.{List, IfOk, subst}
use Rattle.brpc_model.specs.Items.{Item}
use Rattle.sock_core.specs.MachineBeginning.{IsMade}
use Rattle.sock_core.proofs.machine.Machine.new.Goals as goal

pub returns-clause-made : goal.returns-clause-made
returns-clause-made g c = subst (λ (s : List Item). IfOk c.of-2.result (IsMade s)) c.in-Ok.ensures c.of-2.ensures.made
