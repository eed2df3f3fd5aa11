use Rattle.std.proofs.Common.{◌≡◌, ◌∙◌, ap, sym, subst}
use Rattle.machine_model.specs.MachineLinks.{Taken, Given}
use Rattle.machine_model.specs.Machines.{MachineState, core_with, ending_by}
use Rattle.machine_model.specs.Driving.{FirstRests}
use Rattle.std.proofs.Props.{props}
use Rattle.std.proofs.Math.Logic.{∥∥₁_elim}
use Rattle.sock_core.proofs.MachineBeforeEnding.{began_core, began_keeps, began_plain}
use Rattle.machine_steps.proofs.SeatMemoryPlaces.{began_along}
use Rattle.sock_core.proofs.machine.Machine.begin_ending.Goals as goal

pub invariant_of-self : goal.invariant_of-self
invariant_of-self g c = (
  began_keeps c.self.inside.tables c.begin_ending.new.self _ c.self.invariant.0 (ap (λ (m : MachineState). m.short) c.self.view_is ∙ c.requires.enough) (subst FirstRests (sym c.self.view_is) c.requires.rest) c.begin_ending.ensures,
  c.self.invariant.1,
)

pub returns-clause-core : goal.returns-clause-core
returns-clause-core g c = subst (λ (m : MachineState). (took : Taken) (gave : Given) → core_with c.begin_ending.new.self took gave ≡ ending_by m.opens (core_with m took gave)) c.self.view_is
    (began_core c.self.inside.tables c.begin_ending.new.self _ c.self.invariant.0 (ap (λ (m : MachineState). m.short) c.self.view_is ∙ c.requires.enough) (subst FirstRests (sym c.self.view_is) c.requires.rest) c.begin_ending.ensures)

pub returns-clause-plan : goal.returns-clause-plan
returns-clause-plan g c = let w = began_along c.self.view_is c.begin_ending.ensures in (ap (λ (m : MachineState). m.plan) w.is, ap (λ (m : MachineState). m.ids.plan) w.is)

pub returns-clause-links : goal.returns-clause-links
returns-clause-links g c = let w = began_along c.self.view_is c.begin_ending.ensures in ap (λ (m : MachineState). m.links) w.is

pub returns-clause-ends : goal.returns-clause-ends
returns-clause-ends g c = let w = began_along c.self.view_is c.begin_ending.ensures in ap (λ (m : MachineState). m.ends) w.is

pub returns-clause-enough : goal.returns-clause-enough
returns-clause-enough g c = let w = began_along c.self.view_is c.begin_ending.ensures in ap (λ (m : MachineState). m.short) w.is ∙ c.requires.enough

pub returns-clause-plain : goal.returns-clause-plain
returns-clause-plain g c =
    began_plain c.self.inside.tables c.begin_ending.new.self _ c.self.invariant.0 (ap (λ (m : MachineState). m.short) c.self.view_is ∙ c.requires.enough) (subst FirstRests (sym c.self.view_is) c.requires.rest) c.begin_ending.ensures

pub begin_ending-requires : goal.begin_ending-requires
begin_ending-requires g c = ∥∥₁_elim c.self.invariant.0.sizes (hlevel props) (λ h. h.some_seat)
