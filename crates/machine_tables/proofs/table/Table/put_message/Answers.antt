use Rattle.std.proofs.Common.{refl, arith, ap, length, ◌∙◌, inl, Some, slice_set}
use Rattle.seat_programs.specs.TableSteps as calls
use Rattle.seat_programs.specs.ScriptSetupToEnding.{sizes_of}
use Rattle.seat_states.specs.declared.point.Step.TheVariants as firsts
use Rattle.seat_states.specs.ProgramAtPoint.{next_program, heading_by}
use Rattle.seat_states.proofs.StepFacts.{goes_by_word}
use Rattle.client_seats.specs.ClientSeatState.{seat_data, around, bytes_of, parts_of, message_in}
use Rattle.machine_model.specs.LetterHomes.{letters_in}
use Rattle.machine_model.specs.Machines.{TableState, table_sizes}
use Rattle.machine_steps.proofs.SeatBehindEachStep.{written, makes_along, goes, next_along}
use Rattle.machine_steps.proofs.TableCuts.{on_err, cut_along, cut_ids}
use Rattle.machine_model.proofs.TableRoom.{room_for}
use Rattle.machine_steps.proofs.TableGoes.{may_next, hand_put, put_next, put_flat}
use Rattle.machine_tables.proofs.table.Table.put_message.Goals as goal

pub next-next-requires : goal.next-next-requires
next-next-requires g c =
    let seat = seat_data c.args.place.now in
    let t = c.args.self.now in
    let sizes = c.sizes-sizes.ensures ∙ ap (λ (x : TableState). table_sizes x) c.self.view_is in
    may_next {t = t} c.sizes-sizes.result seat 0 sizes c.requires.may.fits.2 c.requires.may.stand (goes_by_word (around (table_sizes t) seat) seat.point (calls.OnMessage (calls.PutMessage c.args.request (heading_by c.args.author (parts_of seat.message)) (bytes_of seat.message))) c.requires.may.next)

pub follow-requires : goal.follow-requires
follow-requires g c =
    let seat = seat_data c.args.place.now in
    let t = c.args.self.now in
    let sizes = c.sizes-sizes.ensures ∙ ap (λ (x : TableState). table_sizes x) c.self.view_is in
    let next = put_next c.sizes-sizes.result (table_sizes t) seat (seat_data (record c.args.place.now { hand = c.put_message.new.hand })) (message_in c.put_message.new.hand) c.next-next.result c.calling.result c.args.request (heading_by c.args.author (parts_of seat.message)) (bytes_of seat.message) sizes
    (hand_put c.args.place.now c.put_message.new.hand c.in_ok-put_message.ensures.rest.1) c.requires.may.next c.calling.ensures c.next-next.ensures.program in
    record {
      room = room_for t c.args.place.now (around c.sizes-sizes.result (seat_data (record c.args.place.now { hand = c.put_message.new.hand }))) c.next-next.result 0 c.requires.room next;
      more = inl (put_flat c.sizes-sizes.result (table_sizes t) seat (seat_data (record c.args.place.now { hand = c.put_message.new.hand })) (message_in c.put_message.new.hand) c.next-next.result c.calling.result c.args.request (heading_by c.args.author (parts_of seat.message)) (bytes_of seat.message) sizes
          (hand_put c.args.place.now c.put_message.new.hand c.in_ok-put_message.ensures.rest.1) c.requires.may.next c.calling.ensures c.next-next.ensures.program);
    }

pub returns-clause-ok : goal.returns-clause-ok
returns-clause-ok g c seat_number =
    let seat = seat_data c.args.place.now in
    let sizes = c.sizes-sizes.ensures in
    let letter = c.in_ok-put_message.ensures.letters in
    makes_along c.self.view_is (
      refl,
      record {
        words = refl;
        letters = record {
          letter = letter.0;
          author_is = letter.1;
          bytes = ap bytes_of letter.2;
          parts = ap parts_of letter.2;
          fresh_are = ap letters_in (written c.self.inside.letters.len c.put_message.new.letters _ (omega (arith, c.self.inside.letters.ok))) ∙ letter.3 ∙ ap (λ ls. slice_set (letters_in ls) c.args.request (Some letter.0)) c.deref_mut.ensures.value;
        };
        holders = refl;
        nexts = refl;
        outs = refl;
        ids = refl;
        ends = refl;
        goes = goes (next_program (around c.sizes-sizes.result (seat_data (record c.args.place.now { hand = c.put_message.new.hand }))) c.next-next.result) (record { plans = record { plan = refl; id_plan = refl; calls = refl; ending = refl }; inns = refl }) sizes c.deref_mut-2.ensures.value (written c.self.inside.outcomes.len c.follow.new.outcomes _ (omega (arith, c.self.inside.outcomes.ok))) c.follow.ensures refl
            (put_next c.sizes-sizes.result (sizes_of c.self.inside.plan c.self.inside.ids.plan) seat (seat_data (record c.args.place.now { hand = c.put_message.new.hand })) (message_in c.put_message.new.hand) c.next-next.result c.calling.result c.args.request (heading_by c.args.author (parts_of seat.message)) (bytes_of seat.message) sizes
            (hand_put c.args.place.now c.put_message.new.hand c.in_ok-put_message.ensures.rest.1) (next_along seat (firsts.PutMessage c.args.request c.args.author) c.self.view_is c.requires.may.next) c.calling.ensures c.next-next.ensures.program);
      },
    )

pub returns-in_err-put_message-clause-err : goal.returns-in_err-put_message-clause-err
returns-in_err-put_message-clause-err g c =
    let same = written c.self.inside.letters.len c.put_message.new.letters _ (omega (arith, c.self.inside.letters.ok)) ∙ c.in_err-put_message.ensures.err ∙ c.deref_mut.ensures.value in
    on_err c.from_residual.result (cut_along c.self.view_is (cut_ids _ _ refl refl refl refl (ap (λ ls. length (letters_in ls)) same) refl refl refl))
