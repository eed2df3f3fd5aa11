use Rattle.std.proofs.Common.{◌<◌, refl, arith, ap, ◌∙◌, subst, sym, inr}
use Rattle.corr_core.specs.declared.marks.Plan.{Plan as IdPlan}
use Rattle.seat_programs.specs.Programs.{Program}
use Rattle.seat_programs.specs.ScriptSetupToEnding.{sizes_of}
use Rattle.call_points.specs.declared.aside.Aside.TheVariants as steps
use Rattle.call_points.specs.AsideCodeSteps.{after_call}
use Rattle.seat_states.specs.declared.point.Step.TheVariants as firsts
use Rattle.seat_states.specs.ProgramAtPoint.{next_program}
use Rattle.client_seats.specs.ClientSeatState.{SeatData, seat_data, around}
use Rattle.machine_model.specs.Machines.{TableState, table_sizes}
use Rattle.machine_steps.proofs.SeatBehindEachStep.{written, makes_along, goes, next_along, same_sizes}
use Rattle.machine_steps.proofs.TableAsides.{behind_call, takes_call, same_ids, slots_kept}
use Rattle.machine_steps.proofs.TableCuts.{cut_ids, cut_along}
use Rattle.machine_tables.proofs.table.Table.take_call.Goals as goal

pub take_call-requires : goal.take_call-requires
take_call-requires g c = subst (λ (x : TableState). c.args.slot < x.ids.plan.slots) (sym c.self.view_is) c.requires.may.fits.0.0

pub with_call-requires : goal.with_call-requires
with_call-requires g c = let seat = seat_data c.args.place.now in takes_call (around (table_sizes c.args.self.now) seat) seat.point c.args.slot c.requires.may.next

pub follow-requires : goal.follow-requires
follow-requires g c = let room = c.has_room.ensures.room c.if-not-has_room.false in record { room = λ o name id e. room.0; more = inr room.1 }

pub invariant_of-self : goal.invariant_of-self
invariant_of-self g c = (slots_kept c.self.invariant.0 c.take_call.ensures, c.self.invariant.1)

pub invariant_of-self-in_default-with_call : goal.invariant_of-self-in_default-with_call
invariant_of-self-in_default-with_call g c = (slots_kept c.self.invariant.0 c.take_call.ensures, c.self.invariant.1)

pub invariant_of-self-then-not-has_room : goal.invariant_of-self-then-not-has_room
invariant_of-self-then-not-has_room g c = (slots_kept c.self.invariant.0 c.take_call.ensures, c.self.invariant.1)

pub invariant_of-self-2 : goal.invariant_of-self-2
invariant_of-self-2 g c = (slots_kept c.self.invariant.0 c.take_call.ensures, c.self.invariant.1)

pub invariant_of-self-3 : goal.invariant_of-self-3
invariant_of-self-3 g c = (slots_kept c.self.invariant.0 c.take_call.ensures, c.self.invariant.1)

pub returns-in_default-clause-err : goal.returns-in_default-clause-err
returns-in_default-clause-err g c = cut_along c.self.view_is (cut_ids _ _ refl (same_ids _ _ _ _ c.take_call.ensures) refl refl refl refl refl refl)

pub returns-in_default-with_call-clause-err : goal.returns-in_default-with_call-clause-err
returns-in_default-with_call-clause-err g c = cut_along c.self.view_is (cut_ids _ _ refl (same_ids _ _ _ _ c.take_call.ensures) refl refl refl refl refl refl)

pub returns-then-not-has_room-clause-err : goal.returns-then-not-has_room-clause-err
returns-then-not-has_room-clause-err g c = cut_along c.self.view_is (cut_ids _ _ refl (same_ids _ _ _ _ c.take_call.ensures) refl refl refl refl refl refl)

pub returns-clause-ok : goal.returns-clause-ok
returns-clause-ok g c seat_number =
    let same = same_ids _ _ _ _ c.take_call.ensures in
    let seat = seat_data c.args.place.now in
    let sizes = c.sizes.ensures ∙ ap (λ (p : IdPlan). sizes_of c.self.inside.plan p) same in
    let first = next_along seat (firsts.Aside (steps.TakeCall c.args.slot)) c.self.view_is c.requires.may.next in
    let own = around (sizes_of c.self.inside.plan c.self.inside.ids.plan) seat in
    let next = behind_call own seat.point c.args.slot c.in-Some.call (takes_call own seat.point c.args.slot first) first in
    makes_along c.self.view_is (
      refl,
      record {
        next = next.next;
        is = next.is;
        found = c.in-Some.call;
        ids = c.in-Some.ensures;
        goes = goes (next_program (around c.sizes.result (seat_data c.has_room.new.place)) c.in-Ok.next) (record { plans = record { plan = refl; id_plan = same; calls = refl; ending = refl }; inns = refl }) sizes c.deref_mut.ensures.value (written c.self.inside.outcomes.len c.follow.new.outcomes _ (omega (arith, c.self.inside.outcomes.ok))) c.follow.ensures
            (ap (λ (m : SeatData). m.waiting) (c.has_room.ensures.same ∙ c.in-Ok.ensures.hand.is))
            (ap (λ (m : SeatData). next_program (around c.sizes.result m) c.in-Ok.next) c.has_room.ensures.same
            ∙ c.in-Ok.ensures.next c.sizes.result
            ∙ same_sizes c.sizes.result (sizes_of c.self.inside.plan c.self.inside.ids.plan) seat (λ (x : Program). after_call x c.in-Some.call) sizes
            ∙ next.behind);
        words = refl;
        letters = refl;
        links = refl;
        ends = refl;
      },
    )
