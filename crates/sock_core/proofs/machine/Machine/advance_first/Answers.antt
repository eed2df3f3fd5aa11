use Rattle.std.proofs.Common.{◌∙◌, ap, sym, subst}
use Rattle.machine_model.specs.declared.tick.Tick.TheVariants.{Idle}
use Rattle.machine_model.specs.Machines.{MachineState}
use Rattle.machine_model.specs.MachineRuns.{Ticked}
use Rattle.machine_model.specs.Driving.{Leaves, IsPlain, TickedFirst}
use Rattle.machine_ticks.proofs.Advancing.{told_ticks, told_keeps, told_leaves, told_sizes}
use Rattle.machine_ticks.proofs.MachineStepFitting.{step_fits}
use Rattle.machine_model.proofs.MachineLengths.{is_sized, some_seat}
use Rattle.machine_ticks.proofs.PlainSteps.{no_step_rests, plain_ready, plain_at, first_told, idle_first}
use Rattle.machine_ticks.proofs.RestingTicks.{rest_ticks}
use Rattle.sock_core.proofs.machine.Machine.advance_first.Goals as goal

pub next_step-requires-clause-ready : goal.next_step-requires-clause-ready
next_step-requires-clause-ready g c = plain_ready c.self.inside.tables (subst IsPlain (sym c.self.view_is) c.requires.plain)

pub next_step-requires-clause-stand : goal.next_step-requires-clause-stand
next_step-requires-clause-stand g c = plain_at c.self.inside.tables (subst IsPlain (sym c.self.view_is) c.requires.plain)

pub step_first-requires-clause-ready : goal.step_first-requires-clause-ready
step_first-requires-clause-ready g c = plain_ready c.self.inside.tables (subst IsPlain (sym c.self.view_is) c.requires.plain)

pub step_first-requires-clause-fits : goal.step_first-requires-clause-fits
step_first-requires-clause-fits g c = step_fits c.self.inside.tables _ c.self.invariant.0 (ap (λ (m : MachineState). m.short) c.self.view_is ∙ c.requires.enough) 0 c.in-Some.step (plain_at c.self.inside.tables (subst IsPlain (sym c.self.view_is) c.requires.plain)) c.in-Some.ensures.some

pub step_first-requires-clause-sized : goal.step_first-requires-clause-sized
step_first-requires-clause-sized g c = is_sized c.self.inside.tables c.self.invariant.0.sizes

pub invariant_of-self : goal.invariant_of-self
invariant_of-self g c = (
  told_keeps c.self.inside.tables c.step_first.new.self _ 0 c.in-Some.step c.step_first.result c.self.invariant.0 (ap (λ (m : MachineState). m.short) c.self.view_is ∙ c.requires.enough) c.in-Some.ensures.some c.step_first.ensures,
  c.self.invariant.1,
)

pub returns-in-Some-clause-tick : goal.returns-in-Some-clause-tick
returns-in-Some-clause-tick g c = subst (λ (m : MachineState). Ticked m c.step_first.new.self 0 c.step_first.result) c.self.view_is (told_ticks c.self.inside.tables c.step_first.new.self _ 0 c.in-Some.step c.step_first.result c.self.invariant.0 (ap (λ (m : MachineState). m.short) c.self.view_is ∙ c.requires.enough) c.in-Some.ensures.some c.step_first.ensures)

pub returns-in-Some-clause-left : goal.returns-in-Some-clause-left
returns-in-Some-clause-left g c = subst (λ (m : MachineState). Leaves c.step_first.result m c.step_first.new.self) c.self.view_is (told_leaves c.self.inside.tables c.step_first.new.self _ 0 c.in-Some.step c.step_first.result c.self.invariant.0 (ap (λ (m : MachineState). m.short) c.self.view_is ∙ c.requires.enough) c.in-Some.ensures.some c.step_first.ensures)

pub returns-in-Some-clause-first : goal.returns-in-Some-clause-first
returns-in-Some-clause-first g c = subst (λ (m : MachineState). TickedFirst m c.step_first.new.self) c.self.view_is (first_told c.self.inside.tables c.step_first.new.self _ c.in-Some.step c.step_first.result c.self.invariant.0 (ap (λ (m : MachineState). m.short) c.self.view_is ∙ c.requires.enough) c.in-Some.ensures.some c.step_first.ensures (subst IsPlain (sym c.self.view_is) c.requires.plain))

pub returns-in-Some-clause-sizes : goal.returns-in-Some-clause-sizes
returns-in-Some-clause-sizes g c = told_sizes c.self.inside.tables c.step_first.new.self _ 0 c.in-Some.step c.step_first.result c.self.invariant.0 (ap (λ (m : MachineState). m.short) c.self.view_is ∙ c.requires.enough) c.in-Some.ensures.some c.step_first.ensures

pub returns-in-None-clause-tick : goal.returns-in-None-clause-tick
returns-in-None-clause-tick g c = subst (λ (m : MachineState). Ticked m m 0 Idle) c.self.view_is (rest_ticks c.self.inside.tables 0 (no_step_rests c.self.inside.tables 0 (some_seat c.self.inside.tables c.self.invariant.0.sizes) c.in-None.ensures.none))

pub returns-in-None-clause-first : goal.returns-in-None-clause-first
returns-in-None-clause-first g c = subst (λ (m : MachineState). TickedFirst m m) c.self.view_is (idle_first c.self.inside.tables (no_step_rests c.self.inside.tables 0 (some_seat c.self.inside.tables c.self.invariant.0.sizes) c.in-None.ensures.none) (subst IsPlain (sym c.self.view_is) c.requires.plain))
