use Rattle.std.proofs.Common.{refl, arith, inr, subst, sym}
use Rattle.std.proofs.lemmas.Bool.{false≢true}
use Rattle.machine_model.specs.Machines.{MachineState, table_of, IsSized}
use Rattle.machine_model.specs.Driving.{IsPlain}
use Rattle.machine_model.specs.MachineSteps.{ReadyAt, StepFits}
use Rattle.machine_steps.proofs.SeatMemoryPlaces.{seat_within, fit_here, plain_here, told_here, next_in, told_along}
use Rattle.machine_steps.proofs.TablePlaces.{tick_as}
use Rattle.machine_tables.proofs.tables.Tables.step_first.Goals as goal
use Rattle.machine_tables.proofs.tables.Tables.step_first.Goals.{in-Ok, in-Err}

pub index_mut-place-requires : goal.index_mut-place-requires
index_mut-place-requires g c =
    let n = next_in c.self.view_is c.requires.next in
    let h = seat_within c.self.inside.table c.self.inside.seats.items c.self.inside.readers.items c.self.inside.opens.items c.self.inside.short 0 0 refl n.seat n.at in
    omega (arith, h, c.self.inside.seats.ok)

pub step-requires-clause-may : goal.step-requires-clause-may
step-requires-clause-may g c =
    fit_here c.self.inside.table c.self.inside.seats.items c.self.inside.readers.items c.self.inside.opens.items c.self.inside.short 0 0 refl c.index_mut-place.result.now c.index_mut-place.result.now c.index_mut-place.ensures.value refl c.args.step.now (next_in c.self.view_is c.requires.next) (subst (λ (m : MachineState). ReadyAt m 0) (sym c.self.view_is) c.requires.ready) (subst (λ (m : MachineState). StepFits m 0 c.args.step.now) (sym c.self.view_is) c.requires.fits)

pub step-requires-clause-sized : goal.step-requires-clause-sized
step-requires-clause-sized g c = subst (λ (m : MachineState). IsSized (table_of m)) (sym c.self.view_is) c.requires.sized

pub step-requires-clause-room : goal.step-requires-clause-room
step-requires-clause-room g c =
    inr (plain_here c.self.inside.table c.self.inside.seats.items c.self.inside.readers.items c.self.inside.opens.items c.self.inside.short 0 0 refl c.index_mut-place.result.now c.index_mut-place.result.now c.index_mut-place.ensures.value refl c.args.step.now (next_in c.self.view_is c.requires.next) refl (subst IsPlain (sym c.self.view_is) c.requires.plain))

pub returns : goal.returns
returns g c = elim c.match-step.branch [
  | in-Ok w ↦ tick_as w.result-is (told_along c.self.view_is (told_here c.self.inside.table c.self.inside.seats.items c.self.inside.readers.items c.self.inside.opens.items c.self.inside.short 0 0 refl c.index_mut-place.result.now c.index_mut-place.result.now c.index_mut-place.ensures.value refl c.args.step.now (next_in c.self.view_is c.requires.next) c.step.new.place w.in-Ok.ensures.ok))
  | in-Err w ↦ absurd (false≢true (w.in-Err.ensures.none (plain_here c.self.inside.table c.self.inside.seats.items c.self.inside.readers.items c.self.inside.opens.items c.self.inside.short 0 0 refl c.index_mut-place.result.now c.index_mut-place.result.now c.index_mut-place.ensures.value refl c.args.step.now (next_in c.self.view_is c.requires.next) refl (subst IsPlain (sym c.self.view_is) c.requires.plain))))
]
