use Rattle.std.proofs.Common.{arith, subst, sym, ap, None}
use Rattle.seat_states.specs.declared.point.Point.{Point}
use Rattle.seat_states.specs.ProgramAtPoint.{point_program}
use Rattle.seat_states.specs.ProgramStepsOfMachine.{first_in}
use Rattle.client_seats.specs.ClientSeatState.{seat_data, around}
use Rattle.machine_model.specs.Machines.{MachineState, table_sizes}
use Rattle.machine_model.specs.MachineSteps.{HasNoStep}
use Rattle.machine_steps.proofs.SeatMemoryPlaces.{unnamed}
use Rattle.machine_tables.proofs.tables.Tables.is_at_rest.Goals as goal

pub returns-then-at-len : goal.returns-then-at-len
returns-then-at-len g c = λ rest.
    let own = around (table_sizes c.self.inside.table) (seat_data c.index.result.now) in
    subst (λ (m : MachineState). HasNoStep m c.args.seat) c.self.view_is
    (unnamed c.self.inside.table c.self.inside.seats.items c.self.inside.readers.items c.self.inside.opens.items c.self.inside.short c.args.seat c.from-at.result c.from-at.ensures c.index.result.now None (omega arith) c.index.ensures
    (ap (λ (p : Point). first_in (point_program own p)) (sym (c.is_rest.ensures rest))))
