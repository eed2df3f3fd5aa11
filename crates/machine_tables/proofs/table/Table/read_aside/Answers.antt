use Rattle.std.proofs.Common.{refl, arith, ap, ◌∙◌, length, ℕ, List}
use Rattle.call_points.specs.AsideCodeSteps.{after_word}
use Rattle.reader_points.specs.declared.point.ReadStep.TheVariants as steps
use Rattle.reader_seats.specs.ReaderState.{around, reader_program}
use Rattle.machine_steps.proofs.SeatBehindEachStep.{written}
use Rattle.machine_steps.proofs.TableAsides.{same_ids, slots_kept}
use Rattle.machine_steps.proofs.TableCuts.{cut_ids, cut_along}
use Rattle.machine_steps.proofs.TableReadings.{told_along, next_along, goes_as, awaited_at, aside_waited, aside_moved}
use Rattle.machine_tables.proofs.table.Table.read_aside.Goals as goal
use Rattle.machine_tables.proofs.table.Table.read_aside.Goals.{in-Some, in-None}

pub invariant_of-self : goal.invariant_of-self
invariant_of-self g c = (slots_kept c.self.invariant.0 (c.step-found.ensures c.args.reader.now.asked), c.self.invariant.1)

pub invariant_of-self-2 : goal.invariant_of-self-2
invariant_of-self-2 g c = (slots_kept c.self.invariant.0 (c.step-found.ensures c.args.reader.now.asked), c.self.invariant.1)

pub returns-in_default-clause-err : goal.returns-in_default-clause-err
returns-in_default-clause-err g c =
    let outcomes = written c.self.inside.outcomes.len c.follow_word.new.outcomes _ (omega (arith, c.self.inside.outcomes.ok)) in
    cut_along c.self.view_is (cut_ids _ _ refl (same_ids _ _ _ _ (c.step-found.ensures c.args.reader.now.asked)) refl refl refl refl refl (ap length outcomes ∙ c.follow_word.auto.outcomes ∙ ap length c.deref_mut.ensures.value))

pub returns-clause-ok : goal.returns-clause-ok
returns-clause-ok g c =
    let reader = c.args.reader.now in
    let made = c.step-found.ensures reader.asked in
    let same = same_ids _ _ _ _ made in
    let outcomes = written c.self.inside.outcomes.len c.follow_word.new.outcomes _ (omega (arith, c.self.inside.outcomes.ok)) in
    let next = next_along reader (steps.Aside c.args.step) c.self.view_is c.requires.may.next in
    let goes = goes_as (λ (cs : List ℕ). after_word (reader_program cs reader) c.step-found.result) c.follow_word.new.self c.deref.ensures.value c.deref_mut.ensures.value outcomes c.in-Ok.ensures in
    let awaited = awaited_at (around c.self.inside.calls.items reader) c.point-point.result reader.point c.step-found.result c.awaited_by_reader.result c.point-point.ensures c.awaited_by_reader.ensures.waits c.awaited_by_reader.ensures.on in
    elim c.match-awaited_by_reader.branch [
      | in-Some w ↦ rw w.result-is (λ i. told_along c.self.view_is (aside_waited i reader c.follow_word.new.self c.args.step c.step-found.result c.awaited_by_reader.result awaited c.requires.kind next (record { plans = record { plan = refl; id_plan = same; calls = refl; ending = refl }; letters = refl; nexts = refl }) made goes refl refl refl w.in-Some.on w.in-Some.is))
      | in-None w ↦ rw w.result-is (λ i. told_along c.self.view_is (aside_moved i reader c.follow_word.new.self c.args.step c.step-found.result c.awaited_by_reader.result awaited c.requires.kind next (record { plans = record { plan = refl; id_plan = same; calls = refl; ending = refl }; letters = refl; nexts = refl }) made goes refl refl refl w.kind.result (w.kind.ensures reader.asked) w.in-None.is))
    ]
