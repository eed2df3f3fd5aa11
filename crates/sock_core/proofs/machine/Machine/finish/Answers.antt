use Rattle.std.proofs.Common.{rules, ◌≡◌, ◌≤◌, ◌*◌, ◌∙◌, refl, length, vec_capacity, ap, subst}
use Rattle.std.proofs.Props.{props}
use Rattle.std.proofs.Math.Logic.{∥∥₁_elim}
use Rattle.sock_words.specs.declared.plain.Plan.{Plan}
use Rattle.sock_io.specs.LinkHalves.{end_of}
use Rattle.machine_model.specs.Machines.{MachineState}
use Rattle.sock_core.proofs.MachineMaking.{told_alike}
use Rattle.sock_core.proofs.machine.Machine.finish.Goals as goal

pub returns-clause-took : goal.returns-clause-took
returns-clause-took g c = told_alike (λ e. g.O.Out.state e.out) (λ e. end_of (g.O.Out.state e.out) (g.I.In.state e.inn)) (λ x. x.took) (λ e. e.took) c.tables-inside.inside.0.0.ends.items c.args.self.links.outs c.args.self.ends (search rules) (search rules) refl

pub returns-clause-gave_count : goal.returns-clause-gave_count
returns-clause-gave_count g c = told_alike (λ e. g.I.In.state e.inn) (λ e. end_of (g.O.Out.state e.out) (g.I.In.state e.inn)) (λ x. x.gave) (λ e. e.gave_count) c.tables-inside.inside.0.0.ends.items c.args.self.links.inns c.args.self.ends (search rules) (search rules) refl

pub returns-clause-gave : goal.returns-clause-gave
returns-clause-gave g c = told_alike (λ e. g.I.In.state e.inn) (λ e. end_of (g.O.Out.state e.out) (g.I.In.state e.inn)) (λ x. x.gave_bytes) (λ e. e.gave) c.tables-inside.inside.0.0.ends.items c.args.self.links.inns c.args.self.ends (search rules) (search rules) refl

pub gather_places-requires-clause-room : goal.gather_places-requires-clause-room
gather_places-requires-clause-room g c =
    let plan : c.args.self.plan ≡ c.tables-inside.inside.0.0.plan = search rules in
    subst (λ (p : Plan). 8 * p.operations ≤ vec_capacity c.self.inside.places) (ap (λ (m : MachineState). m.plan) c.self.view_is ∙ plan) c.self.invariant.0.has_room

pub returns-clause-letters : goal.returns-clause-letters
returns-clause-letters g c = ∥∥₁_elim c.self.invariant.0.sizes (hlevel props) (λ h. subst (λ (m : MachineState). length m.letters ≡ m.plan.requests) c.self.view_is h.letters_are)
