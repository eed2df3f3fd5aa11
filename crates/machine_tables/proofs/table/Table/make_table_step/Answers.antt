use Rattle.std.proofs.Common.{refl, arith, ap, ◌∙◌, subst, sym, inl, ℕ, List}
use Rattle.sock_io.specs.LinkHalves.{end_of}
use Rattle.seat_programs.specs.StepTables.{word_of}
use Rattle.seat_programs.specs.Cores.{found_at}
use Rattle.call_points.specs.AsideCodeSteps.{after_word}
use Rattle.seat_states.specs.ProgramAtPoint.{next_program}
use Rattle.seat_states.specs.ProgramStepsOfMachine.{step_of}
use Rattle.seat_states.proofs.StepFacts.{goes_by_word}
use Rattle.client_seats.specs.ClientSeatState.{seat_data, around, seat_program}
use Rattle.seat_programs.specs.ScriptSetupToEnding.{sizes_of}
use Rattle.machine_model.specs.Machines.{TableState, table_sizes}
use Rattle.machine_model.specs.MachineSteps.{IsReady, MayGoOn}
use Rattle.machine_model.specs.TickAnswersOfStep.{waits_by}
use Rattle.machine_steps.proofs.SeatBehindEachStep.{written, makes_along, goes, halves_in}
use Rattle.machine_model.proofs.TableRoom.{room_for}
use Rattle.machine_steps.proofs.TableGoes.{may_next, next_is, flat_next}
use Rattle.machine_tables.proofs.table.Table.make_table_step.Goals as goal

pub next-next-requires : goal.next-next-requires
next-next-requires g c =
    let seat = seat_data c.args.place.now in
    let t = c.args.self.now in
    let call = step_of c.args.step in
    let sizes = c.sizes-sizes.ensures ∙ ap (λ (x : TableState). table_sizes x) c.self.view_is in
    let found = c.step_word-found.ensures.found ∙ ap (λ (ws : List ℕ). found_at ws (word_of c.self.inside.plan call)) c.deref_mut.ensures.value ∙ ap (λ (x : TableState). found_at x.words (word_of x.plan call)) c.self.view_is in
    may_next {t = t} c.sizes-sizes.result seat c.step_word-found.result sizes (subst (λ (n : ℕ). MayGoOn t seat n) (sym found) c.requires.may.fits.3) c.requires.may.stand (goes_by_word (around (table_sizes t) seat) seat.point call c.requires.may.next)

pub follow-requires : goal.follow-requires
follow-requires g c =
    let seat = seat_data c.args.place.now in
    let t = c.args.self.now in
    let sizes = c.sizes-sizes.ensures ∙ ap (λ (x : TableState). table_sizes x) c.self.view_is in
    let next = next_is {t = t} c.sizes-sizes.result seat c.next-next.result c.step_word-found.result c.calling.result sizes c.requires.may.ready c.calling.ensures c.next-next.ensures.program in
    record {
      room = room_for t c.args.place.now (around c.sizes-sizes.result seat) c.next-next.result c.step_word-found.result c.requires.room next;
      more = inl (flat_next t c.sizes-sizes.result seat c.next-next.result (step_of c.args.step) c.step_word-found.result c.calling.result sizes c.requires.may.next c.requires.may.ready.hand c.calling.ensures c.next-next.ensures.program);
    }

pub returns-clause-made : goal.returns-clause-made
returns-clause-made g c =
    let seat = seat_data c.args.place.now in
    let call = step_of c.args.step in
    let sizes = c.sizes-sizes.ensures in
    let ready = subst (λ (x : TableState). IsReady x seat) (sym c.self.view_is) c.requires.may.ready in
    let found = c.step_word-found.ensures.found ∙ ap (λ (ws : List ℕ). found_at ws (word_of c.self.inside.plan call)) c.deref_mut.ensures.value in
    let halves = halves_in (λ e. g.O.Out.state e.out) (λ e. g.I.In.state e.inn) (λ e. end_of (g.O.Out.state e.out) (g.I.In.state e.inn)) call c.deref_mut-3.ensures.value (written c.self.inside.ends.len c.end_link.new.ends _ (omega (arith, c.self.inside.ends.ok))) c.end_link.ensures.outs c.end_link.ensures.inns c.end_link.ensures.ends in
    makes_along c.self.view_is (
      refl,
      record {
        words = written c.self.inside.words.len c.step_word-found.new.words _ (omega (arith, c.self.inside.words.ok)) ∙ (rw c.deref_mut.ensures.value at c.step_word-found.ensures.words);
        letters = refl;
        holders = written c.self.inside.holders.len c.pass_link.new.holders _ (omega (arith, c.self.inside.holders.ok)) ∙ (rw c.deref_mut-2.ensures.value at c.pass_link.ensures);
        nexts = refl;
        outs = halves.outs;
        ids = refl;
        ends = halves.ends;
        goes = goes (next_program (around c.sizes-sizes.result seat) c.next-next.result)
            (record { plans = record { plan = refl; id_plan = refl; calls = refl; ending = refl }; inns = halves.inns })
            sizes c.deref_mut-4.ensures.value (written c.self.inside.outcomes.len c.follow.new.outcomes _ (omega (arith, c.self.inside.outcomes.ok))) c.follow.ensures refl
            (next_is c.sizes-sizes.result seat c.next-next.result c.step_word-found.result c.calling.result sizes ready c.calling.ensures c.next-next.ensures.program
            ∙ ap (after_word (seat_program (sizes_of c.self.inside.plan c.self.inside.ids.plan) seat)) found);
      },
    )

pub returns-clause-waits : goal.returns-clause-waits
returns-clause-waits g c =
    let seat = seat_data c.args.place.now in
    let call = step_of c.args.step in
    let program = seat_program (table_sizes c.args.self.now) seat in
    let found = c.step_word-found.ensures.found ∙ ap (λ (ws : List ℕ). found_at ws (word_of c.self.inside.plan call)) c.deref_mut.ensures.value ∙ ap (λ (x : TableState). found_at x.words (word_of x.plan call)) c.self.view_is in
    c.awaited-waits.ensures.waits (around (table_sizes c.args.self.now) seat) ∙ ap (waits_by program) found

pub returns-clause-on : goal.returns-clause-on
returns-clause-on g c = c.awaited-waits.ensures.on (around (table_sizes c.args.self.now) (seat_data c.args.place.now))
