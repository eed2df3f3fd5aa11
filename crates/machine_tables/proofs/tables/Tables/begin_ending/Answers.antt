use Rattle.std.proofs.Common.{◌<◌, ℕ, List, refl, length, ap, ap₂, ◌∙◌, arith}
use Rattle.std.proofs.Math.ListN.{length-map}
use Rattle.std.proofs.lemmas.List.{map-set}
use Rattle.seat_programs.specs.ClientProgram.{ending_of}
use Rattle.seat_programs.specs.Cores.{next_step}
use Rattle.seat_programs.specs.ScriptSetupToEnding.{sizes_of}
use Rattle.client_seats.specs.ClientSeatState.{SeatData, seat_data, retries}
use Rattle.machine_model.specs.Machines.{MachineState}
use Rattle.machine_steps.proofs.SeatMemoryPlaces.{view_of, seat_there, began_along}
use Rattle.machine_tables.proofs.tables.Tables.begin_ending.Goals as goal

pub returns : goal.returns
returns g c =
    let many = ap (λ (m : MachineState). length m.seats) c.self.view_is in
    let all = length-map c.self.inside.seats.items seat_data in
    let inside : 0 < length c.self.inside.seats.items = omega (arith, many, all, c.requires) in
    began_along c.self.view_is (record {
      seat = seat_data c.index_mut-first.result.now;
      at = seat_there c.self.inside.table c.self.inside.seats.items c.self.inside.readers.items c.self.inside.opens.items c.self.inside.short 0 0 refl c.index_mut-first.result.now inside c.index_mut-first.ensures.value;
      seat' = seat_data c.end_next.new.self;
      is = ap₂ (λ (os : List ℕ) (ss : List SeatData). let m : MachineState = record (view_of c.self.inside.table c.self.inside.seats.items c.self.inside.readers.items c.self.inside.opens.items c.self.inside.short) { opens = os; seats = ss } in m) c.clear.ensures.items (map-set seat_data c.self.inside.seats.items 0 c.end_next.new.self);
      waiting = ap (λ ks. retries ks.items) c.end_next.ensures.waiting;
      program = c.end_next.ensures.program (sizes_of c.self.inside.table.plan c.self.inside.table.ids.plan) ∙ ap (λ q. next_step (ending_of q.items)) c.swap.ensures.x_after;
    })
