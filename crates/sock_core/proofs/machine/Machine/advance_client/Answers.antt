use Rattle.std.proofs.Common.{◌≢◌, ◌<◌, ◌∙◌, refl, length, ap, sym, subst, vec_capacity}
use Rattle.machine_model.specs.Machines.{MachineState, IsMachine}
use Rattle.machine_model.specs.Driving.{FirstRests}
use Rattle.machine_ticks.proofs.ClientTicks.{went_along, rests_along, rest_on, passed_keeps, passed_on, passed_rests}
use Rattle.sock_core.proofs.machine.Machine.advance_client.Goals as goal

pub invariant_of-self-in_default : goal.invariant_of-self-in_default
invariant_of-self-in_default g c = (
  subst (λ (m : MachineState). IsMachine m (vec_capacity c.self.inside.places)) (sym c.in_default.ensures.none) c.self.invariant.0,
  c.self.invariant.1,
)

pub invariant_of-self : goal.invariant_of-self
invariant_of-self g c = (
  passed_keeps c.self.inside.tables c.args.seat (subst (λ (m : MachineState). c.args.seat < length m.seats) (sym c.self.view_is) c.requires.client) _ c.self.invariant.0 (ap (λ (m : MachineState). m.short) c.self.view_is ∙ c.requires.enough) c.pass.new.self c.in-Some.tick c.in-Some.ensures.some,
  c.self.invariant.1,
)

pub returns-clause-rest : goal.returns-clause-rest
returns-clause-rest g c = subst (λ (m : MachineState). c.args.seat ≢ 0 → FirstRests m → FirstRests c.pass.new.self) c.self.view_is (passed_rests c.self.inside.tables c.args.seat (subst (λ (m : MachineState). c.args.seat < length m.seats) (sym c.self.view_is) c.requires.client) _ c.self.invariant.0 (ap (λ (m : MachineState). m.short) c.self.view_is ∙ c.requires.enough) c.pass.new.self c.in-Some.tick c.in-Some.ensures.some)

pub returns-then-is_at_rest-clause-went : goal.returns-then-is_at_rest-clause-went
returns-then-is_at_rest-clause-went g c = rests_along c.self.view_is (rest_on c.self.inside.tables c.args.seat (subst (λ (m : MachineState). c.args.seat < length m.seats) (sym c.self.view_is) c.requires.client) _ refl c.self.invariant.0.sizes (ap (λ (m : MachineState). m.short) c.self.view_is ∙ c.requires.enough) (c.is_at_rest.ensures c.if-is_at_rest.true))

pub returns-clause-went : goal.returns-clause-went
returns-clause-went g c = went_along c.self.view_is (passed_on c.self.inside.tables c.args.seat (subst (λ (m : MachineState). c.args.seat < length m.seats) (sym c.self.view_is) c.requires.client) _ c.self.invariant.0 (ap (λ (m : MachineState). m.short) c.self.view_is ∙ c.requires.enough) c.pass.new.self c.in-Some.tick c.in-Some.ensures.some _ refl)
