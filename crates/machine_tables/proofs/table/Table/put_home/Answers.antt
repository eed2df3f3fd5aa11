use Rattle.std.proofs.Common.{inr, refl, arith, ap, ◌∙◌, slice_set, None}
use Rattle.seat_programs.specs.ScriptSetupToEnding.{sizes_of}
use Rattle.seat_states.specs.ProgramAtPoint.{next_program}
use Rattle.client_seats.specs.ClientSeatState.{seat_data, around}
use Rattle.seat_states.specs.ProgramAtPoint.{after_home}
use Rattle.machine_steps.proofs.SeatBehindEachStep.{written, makes_along, goes, same_sizes, links_are}
use Rattle.seat_states.proofs.StepFacts.{puts_home}
use Rattle.machine_model.specs.Machines.{table_sizes}
use Rattle.machine_tables.proofs.table.Table.put_home.Goals as goal

pub link_home-next-requires : goal.link_home-next-requires
link_home-next-requires g c = let seat = seat_data c.args.place.now in record { step = (puts_home (around (table_sizes c.args.self.now) seat) seat.point c.args.link c.args.places c.requires.next).0 }

pub follow-requires : goal.follow-requires
follow-requires g c = record { room = λ o name id e. c.requires.room.0; more = inr c.requires.room.1 }

pub returns : goal.returns
returns g c seat =
    makes_along c.self.view_is (
      refl,
      record {
        words = refl;
        letters = refl;
        links = links_are _ _ (written c.self.inside.holders.len c.put_home.new.holders _ (omega (arith, c.self.inside.holders.ok)) ∙ c.put_home.ensures.holders ∙ ap (λ hs. slice_set hs c.args.link None) c.deref_mut.ensures.value) (written c.self.inside.nexts.len c.put_home.new.nexts _ (omega (arith, c.self.inside.nexts.ok)) ∙ c.put_home.ensures.nexts ∙ ap (λ ns. slice_set ns c.args.link c.args.places) c.deref_mut-2.ensures.value);
        ids = refl;
        ends = refl;
        goes = goes (next_program (around c.sizes.result (seat_data c.args.place.now)) c.link_home-next.result) (record { plans = record { plan = refl; id_plan = refl; calls = refl; ending = refl }; inns = refl }) c.sizes.ensures c.deref_mut-3.ensures.value (written c.self.inside.outcomes.len c.follow.new.outcomes _ (omega (arith, c.self.inside.outcomes.ok))) c.follow.ensures refl
            (c.link_home-next.ensures.program (around c.sizes.result (seat_data c.args.place.now)) ∙ same_sizes c.sizes.result (sizes_of c.self.inside.plan c.self.inside.ids.plan) (seat_data c.args.place.now) after_home c.sizes.ensures);
      },
    )
