use Rattle.std.proofs.Common.{refl, arith, ap, ◌∙◌, length, ℕ, List}
use Rattle.sock_io.specs.LinkHalves.{end_of}
use Rattle.seat_programs.specs.StepTables.{word_of}
use Rattle.seat_programs.specs.Cores.{found_at}
use Rattle.call_points.specs.AsideCodeSteps.{after_word}
use Rattle.seat_states.specs.ProgramStepsOfMachine.{step_of}
use Rattle.reader_points.specs.declared.point.ReadStep.TheVariants as steps
use Rattle.reader_seats.specs.ReaderState.{around, reader_program}
use Rattle.machine_steps.proofs.SeatBehindEachStep.{written, halves_in}
use Rattle.machine_steps.proofs.TableCuts.{cut_call, cut_along}
use Rattle.machine_steps.proofs.TableReadings.{told_along, next_along, goes_as, awaited_at, call_waited, call_moved}
use Rattle.machine_tables.proofs.table.Table.read_table_step.Goals as goal
use Rattle.machine_tables.proofs.table.Table.read_table_step.Goals.{in-Some, in-None}

pub returns-in_default-clause-err : goal.returns-in_default-clause-err
returns-in_default-clause-err g c =
    let outcomes = written c.self.inside.outcomes.len c.follow_word.new.outcomes _ (omega (arith, c.self.inside.outcomes.ok)) in
    let holders = written c.self.inside.holders.len c.pass_link.new.holders _ (omega (arith, c.self.inside.holders.ok)) ∙ (rw c.deref_mut-2.ensures.value at c.pass_link.ensures) in
    let halves = halves_in (λ e. g.O.Out.state e.out) (λ e. g.I.In.state e.inn) (λ e. end_of (g.O.Out.state e.out) (g.I.In.state e.inn)) (step_of c.args.step) c.deref_mut-3.ensures.value (written c.self.inside.ends.len c.end_link.new.ends _ (omega (arith, c.self.inside.ends.ok))) c.end_link.ensures.outs c.end_link.ensures.inns c.end_link.ensures.ends in
    cut_along c.self.view_is (cut_call _ _ c.args.seat (step_of c.args.step) refl refl refl refl refl holders refl halves.outs halves.inns halves.ends (ap length outcomes ∙ c.follow_word.auto.outcomes ∙ ap length c.deref_mut-4.ensures.value))

pub returns-clause-ok : goal.returns-clause-ok
returns-clause-ok g c =
    let reader = c.args.reader.now in
    let found = c.step_word-found.ensures.found ∙ ap (λ (ws : List ℕ). found_at ws (word_of c.self.inside.plan (step_of c.args.step))) c.deref_mut.ensures.value in
    let outcomes = written c.self.inside.outcomes.len c.follow_word.new.outcomes _ (omega (arith, c.self.inside.outcomes.ok)) in
    let holders = written c.self.inside.holders.len c.pass_link.new.holders _ (omega (arith, c.self.inside.holders.ok)) ∙ (rw c.deref_mut-2.ensures.value at c.pass_link.ensures) in
    let halves = halves_in (λ e. g.O.Out.state e.out) (λ e. g.I.In.state e.inn) (λ e. end_of (g.O.Out.state e.out) (g.I.In.state e.inn)) (step_of c.args.step) c.deref_mut-3.ensures.value (written c.self.inside.ends.len c.end_link.new.ends _ (omega (arith, c.self.inside.ends.ok))) c.end_link.ensures.outs c.end_link.ensures.inns c.end_link.ensures.ends in
    let words = written c.self.inside.words.len c.step_word-found.new.words _ (omega (arith, c.self.inside.words.ok)) ∙ (rw c.deref_mut.ensures.value at c.step_word-found.ensures.words) in
    let next = next_along reader (steps.Table c.args.step) c.self.view_is c.requires.may.next in
    let goes = goes_as (λ (cs : List ℕ). after_word (reader_program cs reader) c.step_word-found.result) c.follow_word.new.self c.deref.ensures.value c.deref_mut-4.ensures.value outcomes c.in-Ok.ensures in
    let awaited = awaited_at (around c.self.inside.calls.items reader) c.point-point.result reader.point c.step_word-found.result c.awaited_by_reader.result c.point-point.ensures c.awaited_by_reader.ensures.waits c.awaited_by_reader.ensures.on in
    elim c.match-awaited_by_reader.branch [
      | in-Some w ↦ rw w.result-is (told_along c.self.view_is (call_waited c.args.seat reader c.follow_word.new.self c.args.step c.step_word-found.result c.awaited_by_reader.result awaited next (record { plans = record { plan = refl; id_plan = refl; calls = refl; ending = refl }; letters = refl; nexts = refl }) found goes words holders halves.outs halves.inns refl halves.ends w.in-Some.on w.in-Some.is))
      | in-None w ↦ rw w.result-is (told_along c.self.view_is (call_moved c.args.seat reader c.follow_word.new.self c.args.step c.step_word-found.result c.awaited_by_reader.result awaited next (record { plans = record { plan = refl; id_plan = refl; calls = refl; ending = refl }; letters = refl; nexts = refl }) found goes words holders halves.outs halves.inns refl halves.ends w.kind.result w.kind.ensures w.in-None.is))
    ]
