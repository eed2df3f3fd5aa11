use Rattle.std.proofs.Common.{◌≢◌, ◌<◌, ◌∙◌, refl, length, ap, sym, subst}
use Rattle.std.proofs.lemmas.Result.{err_from_is_err_and}
use Rattle.std.specs.Prelude.{OnOk}
use Rattle.machine_model.specs.Machines.{MachineState}
use Rattle.machine_model.specs.Driving.{FirstRests}
use Rattle.machine_ticks.proofs.Preparing.{prepared_keeps, prepared_ready, prepared_stands, cut_keeps}
use Rattle.machine_ticks.proofs.ClientTicks.{went_along, cut_on, client_sized, client_fits, client_idle, idle_rests, went_keeps, went_on, went_rests}
use Rattle.sock_core.proofs.machine.Machine.step_client.Goals as goal

pub invariant_of-self : goal.invariant_of-self
invariant_of-self g c = (
  cut_keeps c.self.inside.tables c.prepare.new.self c.in_err-prepare.ensures.err _ c.self.invariant.0,
  c.self.invariant.1,
)

pub next_step-requires-clause-ready : goal.next_step-requires-clause-ready
next_step-requires-clause-ready g c = prepared_ready c.self.inside.tables c.prepare.new.self c.args.seat c.in_ok-prepare.ensures.ok

pub next_step-requires-clause-stand : goal.next_step-requires-clause-stand
next_step-requires-clause-stand g c = prepared_stands c.self.inside.tables c.prepare.new.self c.args.seat c.in_ok-prepare.ensures.ok

pub invariant_of-self-in_default : goal.invariant_of-self-in_default
invariant_of-self-in_default g c = (
  prepared_keeps c.self.inside.tables c.prepare.new.self c.args.seat c.in_ok-prepare.ensures.ok _ c.self.invariant.0,
  c.self.invariant.1,
)

pub returns-in_default-clause-rest : goal.returns-in_default-clause-rest
returns-in_default-clause-rest g c = λ differ rest. idle_rests c.self.inside.tables c.prepare.new.self _ c.args.seat c.self.invariant.0 (ap (λ (m : MachineState). m.short) c.self.view_is ∙ c.requires.enough) (subst (λ (m : MachineState). c.args.seat < length m.seats) (sym c.self.view_is) c.requires.client) c.in_ok-prepare.ensures.ok differ (subst FirstRests (sym c.self.view_is) rest)

pub step-requires-clause-ready : goal.step-requires-clause-ready
step-requires-clause-ready g c = prepared_ready c.self.inside.tables c.prepare.new.self c.args.seat c.in_ok-prepare.ensures.ok

pub step-requires-clause-fits : goal.step-requires-clause-fits
step-requires-clause-fits g c = client_fits c.self.inside.tables c.prepare.new.self _ c.args.seat c.self.invariant.0 (ap (λ (m : MachineState). m.short) c.self.view_is ∙ c.requires.enough) (subst (λ (m : MachineState). c.args.seat < length m.seats) (sym c.self.view_is) c.requires.client) c.in_ok-prepare.ensures.ok c.in-Some.step c.in-Some.ensures.some

pub step-requires-clause-sized : goal.step-requires-clause-sized
step-requires-clause-sized g c = client_sized c.self.inside.tables c.prepare.new.self _ c.args.seat c.self.invariant.0 (ap (λ (m : MachineState). m.short) c.self.view_is ∙ c.requires.enough) (subst (λ (m : MachineState). c.args.seat < length m.seats) (sym c.self.view_is) c.requires.client) c.in_ok-prepare.ensures.ok

pub invariant_of-self-2 : goal.invariant_of-self-2
invariant_of-self-2 g c = (
  went_keeps c.self.inside.tables c.prepare.new.self _ c.args.seat c.self.invariant.0 (ap (λ (m : MachineState). m.short) c.self.view_is ∙ c.requires.enough) (subst (λ (m : MachineState). c.args.seat < length m.seats) (sym c.self.view_is) c.requires.client) c.in_ok-prepare.ensures.ok c.step.new.self c.in-Some.step c.in-Some.ensures.some c.step.result c.step.ensures.ok c.step.ensures.err,
  c.self.invariant.1,
)

pub returns-clause-rest : goal.returns-clause-rest
returns-clause-rest g c = subst (λ (m : MachineState). OnOk c.step.result (c.args.seat ≢ 0 → FirstRests m → FirstRests c.step.new.self)) c.self.view_is (went_rests c.self.inside.tables c.prepare.new.self _ c.args.seat c.self.invariant.0 (ap (λ (m : MachineState). m.short) c.self.view_is ∙ c.requires.enough) (subst (λ (m : MachineState). c.args.seat < length m.seats) (sym c.self.view_is) c.requires.client) c.in_ok-prepare.ensures.ok c.step.new.self c.in-Some.step c.in-Some.ensures.some c.step.result c.step.ensures.ok c.step.ensures.err)

pub returns-in_err-prepare-clause-went : goal.returns-in_err-prepare-clause-went
returns-in_err-prepare-clause-went g c =
    let p = err_from_is_err_and c.from_residual.result c.from_residual.ensures.1 in
    went_along c.self.view_is (cut_on c.self.inside.tables c.prepare.new.self c.args.seat c.from_residual.result p.0 p.1 c.in_err-prepare.ensures.err c.self.invariant.0.sizes)

pub returns-in_default-clause-went : goal.returns-in_default-clause-went
returns-in_default-clause-went g c = went_along c.self.view_is (client_idle c.self.inside.tables c.prepare.new.self _ c.args.seat c.self.invariant.0 (ap (λ (m : MachineState). m.short) c.self.view_is ∙ c.requires.enough) (subst (λ (m : MachineState). c.args.seat < length m.seats) (sym c.self.view_is) c.requires.client) c.in_ok-prepare.ensures.ok _ refl c.in_default.ensures.none)

pub returns-clause-went : goal.returns-clause-went
returns-clause-went g c = went_along c.self.view_is (went_on c.self.inside.tables c.prepare.new.self _ c.args.seat c.self.invariant.0 (ap (λ (m : MachineState). m.short) c.self.view_is ∙ c.requires.enough) (subst (λ (m : MachineState). c.args.seat < length m.seats) (sym c.self.view_is) c.requires.client) c.in_ok-prepare.ensures.ok c.step.new.self c.in-Some.step c.in-Some.ensures.some c.step.result c.step.ensures.ok c.step.ensures.err)
