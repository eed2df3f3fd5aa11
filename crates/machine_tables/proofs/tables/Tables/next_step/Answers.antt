use Rattle.std.proofs.Common.{arith, subst, sym, ap, None, IfSome, IfNone}
use Rattle.seat_states.specs.declared.point.Point.{Point}
use Rattle.seat_states.specs.ProgramAtPoint.{point_program}
use Rattle.seat_states.specs.ProgramStepsOfMachine.{first_in}
use Rattle.client_seats.specs.ClientSeatState.{seat_data, around}
use Rattle.machine_model.specs.Machines.{MachineState, table_sizes}
use Rattle.machine_model.specs.MachineSteps.{NextIs, HasNoStep, ReadyAt, StandsAt}
use Rattle.machine_steps.proofs.SeatMemoryPlaces.{seat_there, named, unnamed, past}
use Rattle.machine_tables.proofs.tables.Tables.next_step.Goals as goal

pub step-requires : goal.step-requires
step-requires g c =
    let at = seat_there c.self.inside.table c.self.inside.seats.items c.self.inside.readers.items c.self.inside.opens.items c.self.inside.short c.args.seat c.from-at.result c.from-at.ensures c.index-place.result.now (omega arith) c.index-place.ensures in
    (subst (λ (m : MachineState). StandsAt m c.args.seat) (sym c.self.view_is) c.requires.stand (seat_data c.index-place.result.now) at).link

pub returns-in_default-clause-some : goal.returns-in_default-clause-some
returns-in_default-clause-some g c =
    let at = seat_there c.self.inside.table c.self.inside.seats.items c.self.inside.readers.items c.self.inside.opens.items c.self.inside.short c.args.seat c.from-at.result c.from-at.ensures c.index-place.result.now (omega arith) c.index-place.ensures in
    let ready = subst (λ (m : MachineState). ReadyAt m c.args.seat) (sym c.self.view_is) c.requires.ready (seat_data c.index-place.result.now) at in
    subst (λ (m : MachineState). IfSome c.step.result (λ step. NextIs m c.args.seat step)) c.self.view_is
    (named c.self.inside.table c.self.inside.seats.items c.self.inside.readers.items c.self.inside.opens.items c.self.inside.short c.args.seat c.from-at.result c.from-at.ensures c.index-place.result.now c.step.result (omega arith) c.index-place.ensures (c.step.ensures _ (c.calling.ensures (table_sizes c.self.inside.table)) ready.hand))

pub returns-in_default-clause-none : goal.returns-in_default-clause-none
returns-in_default-clause-none g c =
    let at = seat_there c.self.inside.table c.self.inside.seats.items c.self.inside.readers.items c.self.inside.opens.items c.self.inside.short c.args.seat c.from-at.result c.from-at.ensures c.index-place.result.now (omega arith) c.index-place.ensures in
    let ready = subst (λ (m : MachineState). ReadyAt m c.args.seat) (sym c.self.view_is) c.requires.ready (seat_data c.index-place.result.now) at in
    subst (λ (m : MachineState). IfNone c.step.result (HasNoStep m c.args.seat)) c.self.view_is
    (unnamed c.self.inside.table c.self.inside.seats.items c.self.inside.readers.items c.self.inside.opens.items c.self.inside.short c.args.seat c.from-at.result c.from-at.ensures c.index-place.result.now c.step.result (omega arith) c.index-place.ensures (c.step.ensures _ (c.calling.ensures (table_sizes c.self.inside.table)) ready.hand))

-- a seat at rest has none
pub returns-in-Rest-clause-none : goal.returns-in-Rest-clause-none
returns-in-Rest-clause-none g c =
    let own = around (table_sizes c.self.inside.table) (seat_data c.index-place.result.now) in
    subst (λ (m : MachineState). HasNoStep m c.args.seat) c.self.view_is
    (unnamed c.self.inside.table c.self.inside.seats.items c.self.inside.readers.items c.self.inside.opens.items c.self.inside.short c.args.seat c.from-at.result c.from-at.ensures c.index-place.result.now None (omega arith) c.index-place.ensures
    (ap (λ (p : Point). first_in (point_program own p)) (sym c.in-Rest.is)))

pub returns-else-at-len-clause-none : goal.returns-else-at-len-clause-none
returns-else-at-len-clause-none g c =
    subst (λ (m : MachineState). HasNoStep m c.args.seat) c.self.view_is (past c.self.inside.table c.self.inside.seats.items c.self.inside.readers.items c.self.inside.opens.items c.self.inside.short c.args.seat c.from-at.result c.from-at.ensures (omega arith))
