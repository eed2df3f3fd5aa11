use Rattle.std.proofs.Common.{refl, arith, ap, ◌∙◌, subst, sym, inr, []}
use mathlib.Core.Option as core
use Rattle.corr_core.specs.declared.marks.Plan.{Plan as IdPlan}
use Rattle.seat_programs.specs.ScriptSetupToEnding.{sizes_of}
use Rattle.call_points.specs.AsideCodeSteps as aside_steps
use Rattle.call_slots.specs.CallSlotSteps as slots
use Rattle.seat_states.specs.ProgramAtPoint.{next_program}
use Rattle.client_seats.specs.ClientSeatState.{seat_data, around, asked_or_nothing}
use Rattle.machine_model.specs.Machines.{TableState, table_sizes}
use Rattle.machine_model.specs.MachineSteps.{IsReady, FoundBeside}
use Rattle.machine_steps.proofs.SeatBehindEachStep.{written, goes}
use Rattle.machine_steps.proofs.TableAsides.{finds_word, slots_fit, goes_by_word, same_ids, slots_kept, made_aside}
use Rattle.machine_steps.proofs.TableGoes.{may_next, next_is}
use Rattle.machine_tables.proofs.table.Table.make_aside.Goals as goal

pub step-found-requires : goal.step-found-requires
step-found-requires g c = subst (λ (x : TableState). slots.StepFits x.ids c.args.step) (sym c.self.view_is) (slots_fit c.args.self.now c.args.step c.requires.kind c.requires.may.fits.0)

pub next-next-requires : goal.next-next-requires
next-next-requires g c =
    let seat = seat_data c.args.place.now in
    let t = c.args.self.now in
    let asked = asked_or_nothing seat.call in
    let aside = aside_steps.step_of asked c.args.step in
    let sizes = c.sizes-sizes.ensures ∙ ap (λ (p : IdPlan). sizes_of c.self.inside.plan p) (same_ids _ _ _ _ (c.step-found.ensures asked)) ∙ ap (λ (x : TableState). table_sizes x) c.self.view_is in
    let found = subst (λ (x : TableState). FoundBeside x seat c.args.step c.step-found.result) c.self.view_is ((c.step-found.ensures asked).finds [] [] c.self.inside.ending core.none) in
    may_next {t = t} c.sizes-sizes.result seat c.step-found.result sizes (c.requires.may.fits.1 c.step-found.result found) c.requires.may.stand (goes_by_word (around (table_sizes t) seat) seat.point aside c.requires.may.next (finds_word asked c.args.step c.requires.kind))

pub follow-requires : goal.follow-requires
follow-requires g c = record { room = λ o name id e. c.requires.room.0; more = inr c.requires.room.1 }

pub returns-clause-made : goal.returns-clause-made
returns-clause-made g c seat_number =
    let seat = seat_data c.args.place.now in
    let made = c.step-found.ensures (asked_or_nothing seat.call) in
    let same = same_ids _ _ _ _ made in
    let sizes = c.sizes-sizes.ensures ∙ ap (λ (p : IdPlan). sizes_of c.self.inside.plan p) same in
    let ready = subst (λ (x : TableState). IsReady x seat) (sym c.self.view_is) c.requires.may.ready in
    made_aside c.args.step c.step-found.result c.self.view_is c.requires.may.next (finds_word (asked_or_nothing seat.call) c.args.step c.requires.kind) made
    (goes (next_program (around c.sizes-sizes.result seat) c.next-next.result) (record { plans = record { plan = refl; id_plan = same; calls = refl; ending = refl }; inns = refl }) sizes c.deref_mut.ensures.value (written c.self.inside.outcomes.len c.follow.new.outcomes _ (omega (arith, c.self.inside.outcomes.ok))) c.follow.ensures refl
    (next_is c.sizes-sizes.result seat c.next-next.result c.step-found.result c.calling.result sizes ready c.calling.ensures c.next-next.ensures.program))
    refl refl refl refl

pub returns-clause-waits : goal.returns-clause-waits
returns-clause-waits g c =
    let seat = seat_data c.args.place.now in (
      c.step-found.result,
      subst (λ (x : TableState). FoundBeside x seat c.args.step c.step-found.result) c.self.view_is ((c.step-found.ensures (asked_or_nothing seat.call)).finds [] [] c.self.inside.ending core.none),
      c.awaited-waits.ensures.waits (around (table_sizes c.args.self.now) seat),
    )

pub returns-clause-on : goal.returns-clause-on
returns-clause-on g c = c.awaited-waits.ensures.on (around (table_sizes c.args.self.now) (seat_data c.args.place.now))

pub invariant_of-self : goal.invariant_of-self
invariant_of-self g c = (slots_kept c.self.invariant.0 (c.step-found.ensures (asked_or_nothing (seat_data c.args.place.now).call)), c.self.invariant.1)

pub invariant_of-self-2 : goal.invariant_of-self-2
invariant_of-self-2 g c = (slots_kept c.self.invariant.0 (c.step-found.ensures (asked_or_nothing (seat_data c.args.place.now).call)), c.self.invariant.1)
