use Rattle.std.proofs.Common.{◌<◌, refl, length, ap, ◌∙◌, arith, slice_set, ℕ}
use Rattle.std.proofs.Math.ListN.{length-map}
use Rattle.std.proofs.lemmas.List.{map-set}
use Rattle.seat_programs.specs.ScriptSetupToEnding.{sizes_of}
use Rattle.client_seats.specs.ClientSeatState.{seat_data}
use Rattle.machine_model.specs.Machines.{MachineState}
use Rattle.machine_steps.proofs.SeatMemoryPlaces.{view_of, seat_there}
use Rattle.machine_steps.proofs.TablePlaces.{same_many, prepared_at, prepared_along}
use Rattle.machine_steps.proofs.TableCuts.{cut_none, cut_machine, short_along}
use Rattle.machine_tables.proofs.tables.Tables.prepare.Goals as goal

pub index_mut-place-requires : goal.index_mut-place-requires
index_mut-place-requires g c =
    let many = ap (λ (m : MachineState). length m.seats) c.self.view_is in
    let all = length-map c.self.inside.seats.items seat_data in
    omega (arith, many, all, c.requires, c.from.ensures, c.self.inside.seats.ok)

pub returns-then-not-is_prepared-clause-err : goal.returns-then-not-is_prepared-clause-err
returns-then-not-is_prepared-clause-err g c =
    short_along c.self.view_is (cut_machine _ _ (cut_none c.alloc.view_is) refl refl (same_many seat_data c.self.inside.seats.items c.from.result c.is_prepared.new.place) refl)

pub returns-clause-ok : goal.returns-clause-ok
returns-clause-ok g c =
    let many = ap (λ (m : MachineState). length m.seats) c.self.view_is in
    let all = length-map c.self.inside.seats.items seat_data in
    let inside : c.from.result < length c.self.inside.seats.items = omega (arith, many, all, c.requires, c.from.ensures) in
    prepared_along c.self.view_is (prepared_at (view_of c.self.inside.table c.self.inside.seats.items c.self.inside.readers.items c.self.inside.opens.items c.self.inside.short) _ _ c.args.seat (seat_data c.index_mut-place.result.now) (seat_data c.is_prepared.new.place) c.alloc.view_is
    (map-set seat_data c.self.inside.seats.items c.from.result c.is_prepared.new.place ∙ ap (λ (i : ℕ). slice_set (view_of c.self.inside.table c.self.inside.seats.items c.self.inside.readers.items c.self.inside.opens.items c.self.inside.short).seats i (seat_data c.is_prepared.new.place)) c.from.ensures)
    (seat_there c.self.inside.table c.self.inside.seats.items c.self.inside.readers.items c.self.inside.opens.items c.self.inside.short c.args.seat c.from.result c.from.ensures c.index_mut-place.result.now inside c.index_mut-place.ensures.value)
    (c.is_prepared.ensures.prepared c.if-not-is_prepared.false (sizes_of c.self.inside.table.plan c.self.inside.table.ids.plan))
    (c.is_prepared.ensures.stand c.if-not-is_prepared.false))
