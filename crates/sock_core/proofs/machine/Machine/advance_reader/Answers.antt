use Rattle.std.proofs.Common.{◌∙◌, refl, ap, subst}
use Rattle.std.specs.Prelude.{OnOk}
use Rattle.machine_model.specs.Machines.{MachineState}
use Rattle.machine_model.specs.Driving.{FirstRests}
use Rattle.machine_ticks.proofs.ClientTicks.{went_along, rests_along, reader_sized, reader_fits, reader_idle, read_went_keeps, read_went_on, read_went_rests}
use Rattle.sock_core.proofs.machine.Machine.advance_reader.Goals as goal

pub read-requires-clause-fits : goal.read-requires-clause-fits
read-requires-clause-fits g c κs within = reader_fits c.self.inside.tables _ c.args.link c.self.invariant.0 (ap (λ (m : MachineState). m.short) c.self.view_is ∙ c.requires) c.in-Some.step c.in-Some.ensures.some

pub read-requires-clause-sized : goal.read-requires-clause-sized
read-requires-clause-sized g c κs within = reader_sized c.self.inside.tables _ c.args.link c.self.invariant.0 (ap (λ (m : MachineState). m.short) c.self.view_is ∙ c.requires)

pub invariant_of-self : goal.invariant_of-self
invariant_of-self g c = (
  read_went_keeps c.self.inside.tables _ c.args.link c.self.invariant.0 (ap (λ (m : MachineState). m.short) c.self.view_is ∙ c.requires) c.read.new.self c.in-Some.step c.in-Some.ensures.some c.read.result c.read.ensures.ok c.read.ensures.err,
  c.self.invariant.1,
)

pub returns-clause-rest : goal.returns-clause-rest
returns-clause-rest g c = subst (λ (m : MachineState). OnOk c.read.result (FirstRests m → FirstRests c.read.new.self)) c.self.view_is (read_went_rests c.self.inside.tables _ c.args.link c.self.invariant.0 (ap (λ (m : MachineState). m.short) c.self.view_is ∙ c.requires) c.read.new.self c.in-Some.step c.in-Some.ensures.some c.read.result c.read.ensures.ok c.read.ensures.err)

pub returns-in_default-clause-went : goal.returns-in_default-clause-went
returns-in_default-clause-went g c = rests_along c.self.view_is (reader_idle c.self.inside.tables _ c.args.link c.self.invariant.0 (ap (λ (m : MachineState). m.short) c.self.view_is ∙ c.requires) _ refl c.in_default.ensures.none)

pub returns-clause-went : goal.returns-clause-went
returns-clause-went g c = went_along c.self.view_is (read_went_on c.self.inside.tables _ c.args.link c.self.invariant.0 (ap (λ (m : MachineState). m.short) c.self.view_is ∙ c.requires) c.read.new.self c.in-Some.step c.in-Some.ensures.some c.read.result c.read.ensures.ok c.read.ensures.err)
