use Rattle.std.proofs.Common.{refl, arith, ap, ◌∙◌, subst, sym, inr, [], ◌<◌}
use mathlib.Core.Option as core
use Rattle.corr_core.specs.declared.marks.Plan.{Plan as IdPlan}
use Rattle.sock_message.specs.Asked.{Asked}
use Rattle.seat_programs.specs.Asides as asides
use Rattle.seat_programs.specs.ScriptSetupToEnding.{sizes_of}
use Rattle.call_points.specs.declared.aside.Aside.TheVariants as steps
use Rattle.call_slots.specs.CallSlotSteps as slots
use Rattle.seat_states.specs.ProgramAtPoint.{next_program}
use Rattle.client_seats.specs.ClientSeatState.{seat_data, around, asked_or_nothing}
use Rattle.machine_model.specs.Machines.{TableState, table_sizes}
use Rattle.machine_model.specs.MachineSteps.{IsReady, FoundBeside}
use Rattle.machine_steps.proofs.SeatBehindEachStep.{written, goes}
use Rattle.machine_steps.proofs.TableAsides.{goes_by_word, same_ids, slots_kept, made_aside}
use Rattle.machine_steps.proofs.TableGoes.{may_next, next_is}
use Rattle.machine_tables.proofs.table.Table.put_call.Goals as goal

pub put_call-found-requires : goal.put_call-found-requires
put_call-found-requires g c = subst (λ (x : TableState). c.args.slot < x.ids.plan.slots) (sym c.self.view_is) c.requires.may.fits.0

pub next-next-requires : goal.next-next-requires
next-next-requires g c =
    let seat = seat_data c.args.place.now in
    let asked = asked_or_nothing seat.call in
    let aside = asides.PutCall c.args.slot asked in
    let made = subst (λ (a : Asked). slots.Makes c.self.inside.ids (asides.PutCall c.args.slot a) (core.some c.put_call-found.result) c.put_call-found.new.self) (c.in-Ok.ensures ∙ ap asked_or_nothing c.in-Some.ensures) c.put_call-found.ensures in
    let t = c.args.self.now in
    let sizes = c.sizes-sizes.ensures ∙ ap (λ (p : IdPlan). sizes_of c.self.inside.plan p) (same_ids _ _ _ _ made) ∙ ap (λ (x : TableState). table_sizes x) c.self.view_is in
    let found = subst (λ (x : TableState). FoundBeside x seat (steps.PutCall c.args.slot) c.put_call-found.result) c.self.view_is (made.finds [] [] c.self.inside.ending core.none) in
    may_next {t = t} c.sizes-sizes.result seat c.put_call-found.result sizes (c.requires.may.fits.1 c.put_call-found.result found) c.requires.may.stand (goes_by_word (around (table_sizes t) seat) seat.point aside c.requires.may.next tt)

pub follow-requires : goal.follow-requires
follow-requires g c = record { room = λ o name id e. c.requires.room.0; more = inr c.requires.room.1 }

pub invariant_of-self : goal.invariant_of-self
invariant_of-self g c = (slots_kept c.self.invariant.0 c.put_call-found.ensures, c.self.invariant.1)

pub invariant_of-self-2 : goal.invariant_of-self-2
invariant_of-self-2 g c = (slots_kept c.self.invariant.0 c.put_call-found.ensures, c.self.invariant.1)

pub returns-clause-ok : goal.returns-clause-ok
returns-clause-ok g c seat_number =
    let seat = seat_data c.args.place.now in
    let same = same_ids _ _ _ _ c.put_call-found.ensures in
    let sizes = c.sizes-sizes.ensures ∙ ap (λ (p : IdPlan). sizes_of c.self.inside.plan p) same in
    let ready = subst (λ (x : TableState). IsReady x seat) (sym c.self.view_is) c.requires.may.ready in
    made_aside (steps.PutCall c.args.slot) c.put_call-found.result c.self.view_is c.requires.may.next tt (subst (λ (a : Asked). slots.Makes c.self.inside.ids (asides.PutCall c.args.slot a) (core.some c.put_call-found.result) c.put_call-found.new.self) (c.in-Ok.ensures ∙ ap asked_or_nothing c.in-Some.ensures) c.put_call-found.ensures)
    (goes (next_program (around c.sizes-sizes.result seat) c.next-next.result) (record { plans = record { plan = refl; id_plan = same; calls = refl; ending = refl }; inns = refl }) sizes c.deref_mut.ensures.value (written c.self.inside.outcomes.len c.follow.new.outcomes _ (omega (arith, c.self.inside.outcomes.ok))) c.follow.ensures refl
    (next_is c.sizes-sizes.result seat c.next-next.result c.put_call-found.result c.calling.result sizes ready c.calling.ensures c.next-next.ensures.program))
    refl refl refl refl
