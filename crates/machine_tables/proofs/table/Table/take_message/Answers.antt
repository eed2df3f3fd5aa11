use Rattle.std.proofs.Common.{◌≡◌, refl, arith, ap, sym, subst, ◌∙◌, slice_set, Some, None, inr, option_map}
use mathlib.Core.Option.{some}
use lib.ListN.{get_elem?}
use Rattle.seat_programs.specs.ScriptSetupToEnding.{sizes_of}
use Rattle.message_parts.specs.Parcels.{parcel_of, outgoing_of}
use Rattle.seat_states.specs.ProgramAtPoint.{next_program}
use Rattle.seat_states.proofs.StepFacts.{takes_message}
use Rattle.client_seats.specs.ClientSeatState.{seat_data, around}
use Rattle.machine_model.specs.LetterHomes.{letters_in}
use Rattle.machine_model.specs.Machines.{TableState, table_sizes}
use Rattle.machine_steps.proofs.SeatBehindEachStep.{written, makes_along, goes, message_is}
use Rattle.machine_tables.proofs.table.Table.take_message.Goals as goal

pub with_message-next-requires : goal.with_message-next-requires
with_message-next-requires g c = let seat = seat_data c.args.place.now in record { step = (takes_message (around (table_sizes c.args.self.now) seat) seat.point c.args.request c.requires.next).0 }

pub take_message-author-requires : goal.take_message-author-requires
take_message-author-requires g c = record {
  there = (c.requires.fits.0, ap (λ ls. get_elem? (letters_in ls) c.args.request) c.deref_mut.ensures.value ∙ subst (λ (t : TableState). get_elem? t.letters c.args.request ≡ some (Some c.requires.fits.0)) (sym c.self.view_is) c.requires.fits.1);
}

pub follow-requires : goal.follow-requires
follow-requires g c = record { room = λ o name id e. c.requires.room.0; more = inr c.requires.room.1 }

pub returns : goal.returns
returns g c seat_number =
    let seat = seat_data c.args.place.now in
    let taken = c.take_message-author.ensures.taken in
    makes_along c.self.view_is (
      refl,
      record {
        letter = taken.0;
        at = rw c.deref_mut.ensures.value at taken.1;
        words = refl;
        letters = ap letters_in (written c.self.inside.letters.len c.take_message-author.new.letters _ (omega (arith, c.self.inside.letters.ok))) ∙ c.take_message-author.ensures.letters ∙ ap (λ ls. slice_set (letters_in ls) c.args.request None) c.deref_mut.ensures.value;
        links = refl;
        ids = refl;
        ends = refl;
        goes = goes (next_program (around c.sizes.result (record seat { out = option_map outgoing_of c.take_message-author.new.out })) c.with_message-next.result) (record { plans = record { plan = refl; id_plan = refl; calls = refl; ending = refl }; inns = refl }) c.sizes.ensures c.deref_mut-2.ensures.value (written c.self.inside.outcomes.len c.follow.new.outcomes _ (omega (arith, c.self.inside.outcomes.ok))) c.follow.ensures refl
            (message_is c.sizes.result (sizes_of c.self.inside.plan c.self.inside.ids.plan) seat (option_map outgoing_of c.take_message-author.new.out) c.with_message-next.result c.take_message-author.result taken.0.author (parcel_of taken.0.message).parts (parcel_of taken.0.message).bytes c.sizes.ensures taken.3 taken.2 c.with_message-next.ensures.program);
      },
    )
