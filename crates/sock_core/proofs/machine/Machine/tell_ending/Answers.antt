use Rattle.std.proofs.Common.{◌≡◌, sym, subst, vec_capacity, []}
use Rattle.machine_model.specs.Machines.{MachineState, IsMachine}
use Rattle.sock_core.proofs.MachineBeforeEnding.{ending_keeps}
use Rattle.sock_core.proofs.machine.Machine.tell_ending.Goals as goal

pub invariant_of-self : goal.invariant_of-self
invariant_of-self g c = subst (λ (m : MachineState). IsMachine m (vec_capacity c.self.inside.places) × (c.self.inside.places.items ≡ [])) (sym c.tell_ending.ensures)
    (ending_keeps c.self.inside.tables _ c.self.invariant.0, c.self.invariant.1)
