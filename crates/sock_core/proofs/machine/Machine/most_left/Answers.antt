use Rattle.std.proofs.Common.{rules, ◌≡◌, ◌-◌, false, subst}
use Rattle.machine_model.specs.Machines.{MachineState, MOST_LEFT}
use Rattle.machine_model.specs.Driving.{LastsAtMost}
use Rattle.sock_core.proofs.MachineBeforeEnding.{lasts_most}
use Rattle.sock_core.proofs.machine.Machine.most_left.Goals as goal

pub returns-else-self-clause-left : goal.returns-else-self-clause-left
returns-else-self-clause-left g c =
    let enough : c.self.inside.tables.short ≡ false = search rules in
    subst (λ (m : MachineState). LastsAtMost m (MOST_LEFT - 1)) c.self.view_is (lasts_most c.self.inside.tables _ c.self.invariant.0 enough)
