use Rattle.std.proofs.Common.{refl, arith, subst, sym, inl}
use Rattle.machine_model.specs.Machines.{MachineState, table_of, IsSized}
use Rattle.machine_model.specs.MachineSteps.{ReadyAt, StepFits}
use Rattle.client_seats.specs.ClientSeatState.{seat_data}
use Rattle.machine_steps.proofs.SeatMemoryPlaces.{seat_within, fit_here, told_here, next_in, told_along}
use Rattle.machine_steps.proofs.TablePlaces.{same_many}
use Rattle.machine_steps.proofs.TableCuts.{cut_none, cut_machine, short_along}
use Rattle.machine_tables.proofs.tables.Tables.step.Goals as goal

pub index_mut-place-requires : goal.index_mut-place-requires
index_mut-place-requires g c =
    let n = next_in c.self.view_is c.requires.next in
    let h = seat_within c.self.inside.table c.self.inside.seats.items c.self.inside.readers.items c.self.inside.opens.items c.self.inside.short c.args.seat c.from.result c.from.ensures n.seat n.at in
    omega (arith, h, c.self.inside.seats.ok)

pub returns-then-not-has_room-clause-err : goal.returns-then-not-has_room-clause-err
returns-then-not-has_room-clause-err g c =
    short_along c.self.view_is (cut_machine _ _ (cut_none refl) refl refl (same_many seat_data c.self.inside.seats.items c.from.result c.has_room.new.place) refl)

pub step-requires-clause-may : goal.step-requires-clause-may
step-requires-clause-may g c =
    fit_here c.self.inside.table c.self.inside.seats.items c.self.inside.readers.items c.self.inside.opens.items c.self.inside.short c.args.seat c.from.result c.from.ensures c.index_mut-place.result.now c.has_room.new.place c.index_mut-place.ensures.value c.has_room.ensures.same c.args.step.now (next_in c.self.view_is c.requires.next) (subst (λ (m : MachineState). ReadyAt m c.args.seat) (sym c.self.view_is) c.requires.ready) (subst (λ (m : MachineState). StepFits m c.args.seat c.args.step.now) (sym c.self.view_is) c.requires.fits)

pub step-requires-clause-sized : goal.step-requires-clause-sized
step-requires-clause-sized g c = subst (λ (m : MachineState). IsSized (table_of m)) (sym c.self.view_is) c.requires.sized

pub step-requires-clause-room : goal.step-requires-clause-room
step-requires-clause-room g c = inl (c.has_room.ensures.room c.if-not-has_room.false)

pub returns-in_default-clause-err : goal.returns-in_default-clause-err
returns-in_default-clause-err g c =
    short_along c.self.view_is (cut_machine _ _ c.in_default.ensures.err refl refl (same_many seat_data c.self.inside.seats.items c.from.result c.step.new.place) refl)

pub returns-clause-ok : goal.returns-clause-ok
returns-clause-ok g c =
    told_along c.self.view_is (told_here c.self.inside.table c.self.inside.seats.items c.self.inside.readers.items c.self.inside.opens.items c.self.inside.short c.args.seat c.from.result c.from.ensures c.index_mut-place.result.now c.has_room.new.place c.index_mut-place.ensures.value c.has_room.ensures.same c.args.step.now (next_in c.self.view_is c.requires.next) c.step.new.place c.in-Ok.ensures.ok)
