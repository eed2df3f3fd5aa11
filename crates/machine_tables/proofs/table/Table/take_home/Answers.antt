use Rattle.std.proofs.Common.{inr, refl, arith, ap, ◌∙◌, slice_set, Some}
use Rattle.seat_programs.specs.ScriptSetupToEnding.{sizes_of}
use Rattle.seat_states.specs.ProgramAtPoint.{next_program}
use Rattle.client_seats.specs.ClientSeatState.{seat_data, around}
use Rattle.seat_states.specs.ProgramAtPoint.{after_link}
use Rattle.client_seats.specs.ClientSeatState.{seat_program}
use Rattle.machine_steps.proofs.SeatBehindEachStep.{written, makes_along, goes, same_sizes, links_are}
use Rattle.seat_states.proofs.StepFacts.{takes_link}
use Rattle.machine_model.specs.Machines.{table_sizes}
use Rattle.machine_tables.proofs.table.Table.take_home.Goals as goal

pub with_link-next-requires : goal.with_link-next-requires
with_link-next-requires g c = let seat = seat_data c.args.place.now in record { step = (takes_link (around (table_sizes c.args.self.now) seat) seat.point c.args.link c.requires.next).0 }

pub follow-requires : goal.follow-requires
follow-requires g c = record { room = λ o name id e. c.requires.room.0; more = inr c.requires.room.1 }

pub returns : goal.returns
returns g c =
    makes_along c.self.view_is (
      refl,
      record {
        words = refl;
        letters = refl;
        links = links_are _ _ (written c.self.inside.holders.len c.take_home-places.new.holders _ (omega (arith, c.self.inside.holders.ok)) ∙ c.take_home-places.ensures.holders ∙ ap (λ hs. slice_set hs c.args.link (Some c.args.seat)) c.deref_mut.ensures.value) refl;
        ids = refl;
        ends = refl;
        goes = goes (next_program (around c.sizes.result (seat_data c.args.place.now)) c.with_link-next.result) (record { plans = record { plan = refl; id_plan = refl; calls = refl; ending = refl }; inns = refl }) c.sizes.ensures c.deref_mut-2.ensures.value (written c.self.inside.outcomes.len c.follow.new.outcomes _ (omega (arith, c.self.inside.outcomes.ok))) c.follow.ensures refl
            (c.with_link-next.ensures.program (around c.sizes.result (seat_data c.args.place.now)) ∙ same_sizes c.sizes.result (sizes_of c.self.inside.plan c.self.inside.ids.plan) (seat_data c.args.place.now) (λ x. after_link x c.take_home-places.result) c.sizes.ensures ∙ ap (after_link (seat_program (sizes_of c.self.inside.plan c.self.inside.ids.plan) (seat_data c.args.place.now))) (rw c.deref.ensures.value at c.take_home-places.ensures.places));
      },
    )
