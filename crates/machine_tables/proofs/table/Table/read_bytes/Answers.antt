use Rattle.std.proofs.Common.{◌≡◌, refl, arith, ap, sym, ◌∙◌, length, take, subst, ℕ, Bool, true, false, List}
use Rattle.std.proofs.Math.Seq.{map-set_same}
use Rattle.sock_io.specs.declared.link.Take.TheVariants as takes
use Rattle.sock_io.specs.LinkHalves.{end_of}
use Rattle.reader_points.specs.declared.point.ReadStep.TheVariants as steps
use Rattle.call_points.specs.declared.aside.Aside.TheVariants as variants
use Rattle.reader_points.specs.ReaderCodeSteps.{after_taking}
use Rattle.seat_programs.specs.Asides.{Nothing}
use Rattle.seat_programs.specs.FoundAndChangedAside.{at_last}
use Rattle.seat_programs.specs.Ticks.{OfTake, is_nothing}
use Rattle.reader_seats.specs.ReaderState.{around, reader_program}
use Rattle.reader_seats.specs.ReaderGoesOn.{GoesOn, taking_of}
use Rattle.machine_model.specs.declared.tick.On.TheVariants as on
use Rattle.machine_model.specs.declared.tick.Tick.TheVariants.{Waits}
use Rattle.machine_steps.proofs.SeatBehindEachStep.{written}
use Rattle.machine_steps.proofs.TableCuts.{cut_halves, cut_take, cut_along, on_err}
use Rattle.machine_steps.proofs.TableReads.{reads_bytes, fills, takes_again}
use Rattle.machine_steps.proofs.TableReadings.{next_along, told_along, goes_as, take_told}
use Rattle.machine_steps.proofs.TableTakes.{taken_from}
use Rattle.machine_tables.proofs.table.Table.read_bytes.Goals as goal

pub returns-in_err-settle-clause-err : goal.returns-in_err-settle-clause-err
returns-in_err-settle-clause-err g c =
    let e = c.in_err-settle.ensures.err.1 ∙ c.index_mut-ends.ensures.value in
    on_err c.from_residual.result (cut_along c.self.view_is (cut_halves _ _ refl refl refl refl refl refl refl
    (map-set_same (λ e. g.O.Out.state e.out) c.self.inside.ends.items c.from-2.result _ c.index_mut-ends.result.now (ap (λ e. g.O.Out.state e.out) e))
    (map-set_same (λ e. g.I.In.state e.inn) c.self.inside.ends.items c.from-2.result _ c.index_mut-ends.result.now (ap (λ e. g.I.In.state e.inn) e))
    (map-set_same (λ e. end_of (g.O.Out.state e.out) (g.I.In.state e.inn)) c.self.inside.ends.items c.from-2.result _ c.index_mut-ends.result.now (ap (λ e. end_of (g.O.Out.state e.out) (g.I.In.state e.inn)) e))
    refl))

pub returns-in_default-follow_take-clause-err : goal.returns-in_default-follow_take-clause-err
returns-in_default-follow_take-clause-err g c =
    let reader = c.args.reader.now in
    let next = next_along reader (steps.Aside (variants.TakeBytes c.args.link c.args.count)) c.self.view_is c.requires.may.next in
    let outcomes = written c.self.inside.outcomes.len c.follow_take.new.outcomes _ (omega (arith, c.self.inside.outcomes.ok)) in
    let from = taken_from (λ e. g.O.Out.state e.out) (λ e. g.I.In.state e.inn) _ _ c.self.inside.ends.items c.from-2.result c.args.link c.args.count c.index_mut-ends.result.now c.settle.new.ends _ c.from-2.ensures (omega (arith, c.if-from-len.false, c.from.ensures, c.len.ensures, c.self.inside.ends.ok)) c.index_mut-ends.ensures.value refl refl refl _ c.take_into-answer.result
    (fills (around c.self.inside.calls.items reader) reader.point c.args.link c.args.count c.take_into-answer.new.room next (omega (arith, c.take_into-answer.auto.room, c.deref_mut.ensures.len, c.self.invariant.1))) c.in_ok-settle.ensures.out c.in_ok-settle.ensures.inn c.in_ok-settle.ensures.settled refl c.take_into-answer.ensures refl refl in
    cut_along c.self.view_is (cut_take _ _ c.args.link c.args.count _ from refl refl refl refl refl refl refl
    (map-set_same (λ e. g.O.Out.state e.out) c.self.inside.ends.items c.from-2.result _ c.index_mut-ends.result.now (c.in_ok-settle.ensures.out ∙ ap (λ e. g.O.Out.state e.out) c.index_mut-ends.ensures.value))
    (ap length outcomes ∙ c.follow_take.auto.outcomes ∙ ap length c.deref_mut-2.ensures.value))

pub returns-clause-ok : goal.returns-clause-ok
returns-clause-ok g c i =
    let reader = c.args.reader.now in
    let next = next_along reader (steps.Aside (variants.TakeBytes c.args.link c.args.count)) c.self.view_is c.requires.may.next in
    let room = take c.args.count c.take_into-answer.new.room in
    let outcomes = written c.self.inside.outcomes.len c.follow_take.new.outcomes _ (omega (arith, c.self.inside.outcomes.ok)) in
    let from = taken_from (λ e. g.O.Out.state e.out) (λ e. g.I.In.state e.inn) _ _ c.self.inside.ends.items c.from-2.result c.args.link c.args.count c.index_mut-ends.result.now c.settle.new.ends _ c.from-2.ensures (omega (arith, c.if-from-len.false, c.from.ensures, c.len.ensures, c.self.inside.ends.ok)) c.index_mut-ends.ensures.value refl refl refl room c.take_into-answer.result
    (fills (around c.self.inside.calls.items reader) reader.point c.args.link c.args.count c.take_into-answer.new.room next (omega (arith, c.take_into-answer.auto.room, c.deref_mut.ensures.len, c.self.invariant.1))) c.in_ok-settle.ensures.out c.in_ok-settle.ensures.inn c.in_ok-settle.ensures.settled refl c.take_into-answer.ensures refl refl in
    let answer = c.take_into-answer.result in
    let lies = c.deref-2.ensures.value ∙ written c.self.inside.room.len c.take_into-answer.new.room _ (omega (arith, c.take_into-answer.auto.room, c.deref_mut.ensures.len, c.self.inside.room.ok)) in
    let own : take c.args.count c.deref-2.result.now ≡ room = ap (λ (xs : List ℕ). take c.args.count xs) lies in
    let follows = subst (λ (xs : List ℕ). GoesOn c.deref.result.now (after_taking (reader_program c.deref.result.now reader) (at_last c.self.inside.ending (taking_of xs answer))) c.follow_take.new.self c.deref_mut-2.result.now c.follow_take.new.outcomes) own c.in-Ok.ensures in
    let goes = goes_as (λ (cs : List ℕ). after_taking (reader_program cs reader) (at_last c.self.inside.ending (taking_of room answer))) c.follow_take.new.self c.deref.ensures.value c.deref_mut-2.ensures.value outcomes follows in
    told_along c.self.view_is (take_told i reader c.follow_take.new.self c.args.link c.args.count (taking_of room answer) c.take_tick.result (record { plans = record { plan = refl; id_plan = refl; calls = refl; ending = refl }; letters = refl; nexts = refl }) next from goes refl refl refl
    (map-set_same (λ e. g.O.Out.state e.out) c.self.inside.ends.items c.from-2.result _ c.index_mut-ends.result.now (c.in_ok-settle.ensures.out ∙ ap (λ e. g.O.Out.state e.out) c.index_mut-ends.ensures.value))
    (c.take_tick.ensures.waits room) (c.take_tick.ensures.moved room))

pub returns-in-Empty-clause-ok : goal.returns-in-Empty-clause-ok
returns-in-Empty-clause-ok g c i =
    let reader = c.args.reader.now in
    let next = next_along reader (steps.Aside (variants.TakeBytes c.args.link c.args.count)) c.self.view_is c.requires.may.next in
    let room = take c.args.count c.take_into-answer.new.room in
    let takes_bytes = reads_bytes (around c.self.inside.calls.items reader) reader.point c.args.link c.args.count next in
    let off : c.self.inside.ending ≡ false = c.if-not-self.true in
    let from = taken_from (λ e. g.O.Out.state e.out) (λ e. g.I.In.state e.inn) _ _ c.self.inside.ends.items c.from-2.result c.args.link c.args.count c.index_mut-ends.result.now c.settle.new.ends _ c.from-2.ensures (omega (arith, c.if-from-len.false, c.from.ensures, c.len.ensures, c.self.inside.ends.ok)) c.index_mut-ends.ensures.value refl refl refl room takes.Empty
    (fills (around c.self.inside.calls.items reader) reader.point c.args.link c.args.count c.take_into-answer.new.room next (omega (arith, c.take_into-answer.auto.room, c.deref_mut.ensures.len, c.self.invariant.1))) c.in_ok-settle.ensures.out c.in_ok-settle.ensures.inn c.in_ok-settle.ensures.settled refl c.in-Empty.ensures refl refl in
    told_along c.self.view_is (take_told i reader reader c.args.link c.args.count Nothing (Waits (on.In c.args.link)) (record { plans = record { plan = refl; id_plan = refl; calls = refl; ending = refl }; letters = refl; nexts = refl }) next from (takes_again c.self.inside.calls.items reader c.self.inside.ending _ takes_bytes.0 off) refl refl refl
    (map-set_same (λ e. g.O.Out.state e.out) c.self.inside.ends.items c.from-2.result _ c.index_mut-ends.result.now (c.in_ok-settle.ensures.out ∙ ap (λ e. g.O.Out.state e.out) c.index_mut-ends.ensures.value))
    (λ e. refl) (λ e. let h : true ≡ false = ap (λ (b : Bool). is_nothing b (OfTake Nothing)) (sym off) ∙ e in cc))
