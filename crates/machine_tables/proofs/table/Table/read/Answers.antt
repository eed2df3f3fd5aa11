use Rattle.std.proofs.Common.{◌≡◌, refl, ap, ◌∙◌, sym, subst}
use Rattle.call_points.specs.declared.aside.Aside.TheVariants as variants
use Rattle.reader_points.specs.declared.point.ReadStep.{ReadStep}
use Rattle.reader_points.specs.declared.point.ReadStep.TheVariants as steps
use Rattle.machine_model.specs.ReadingSteps.{IsNextRead, IsFitRead}
use Rattle.machine_steps.proofs.TableAsides.{same_ids, slots_kept}
use Rattle.machine_steps.proofs.TableCuts.{cut_ids, cut_along}
use Rattle.machine_steps.proofs.TableReadings.{told_along, next_along, taken_told, step_along}
use Rattle.machine_tables.proofs.table.Table.read.Goals as goal

pub invariant_of-self : goal.invariant_of-self
invariant_of-self g c = (slots_kept c.self.invariant.0 c.take_call.ensures, c.self.invariant.1)

pub invariant_of-self-in-Aside-TakeCall : goal.invariant_of-self-in-Aside-TakeCall
invariant_of-self-in-Aside-TakeCall g c = (slots_kept c.self.invariant.0 c.take_call.ensures, c.self.invariant.1)

pub returns-in_default-clause-err : goal.returns-in_default-clause-err
returns-in_default-clause-err g c = cut_along c.self.view_is (cut_ids _ _ refl (same_ids _ _ _ _ c.take_call.ensures) refl refl refl refl refl refl)

pub returns-in-Some-clause-ok : goal.returns-in-Some-clause-ok
returns-in-Some-clause-ok g c =
    let same = same_ids _ _ _ _ c.take_call.ensures in
    let reader = c.args.reader.now in
    let own = rw c.in-Aside-TakeCall.is at c.in-Aside-TakeCall.field-0-is in
    let is : c.args.step ≡ steps.Aside (variants.TakeCall c.in-Aside-TakeCall.slot) = c.in-Aside-TakeCall.is ∙ ap steps.Aside own in
    let next = next_along reader (steps.Aside (variants.TakeCall c.in-Aside-TakeCall.slot)) c.self.view_is (subst (λ (s : ReadStep). IsNextRead c.args.self.now reader s) is c.requires.may.next) in
    step_along (sym is) (told_along c.self.view_is (taken_told c.args.seat reader c.follow_call.new.self c.in-Aside-TakeCall.slot c.in-Some.call (record { plans = record { plan = refl; id_plan = same; calls = refl; ending = refl }; letters = refl; nexts = refl }) next c.in-Some.ensures
    (c.follow_call.ensures c.self.inside.calls.items c.self.inside.outcomes.items) refl refl refl))

pub read_table_step-requires-clause-may : goal.read_table_step-requires-clause-may
read_table_step-requires-clause-may g c = subst (λ (s : ReadStep). IsFitRead c.args.self.now c.args.reader.now s) c.in-Table.is c.requires.may

pub read_bytes-requires-clause-may : goal.read_bytes-requires-clause-may
read_bytes-requires-clause-may g c κs within =
    let own = rw c.in-Aside-TakeBytes.is at c.in-Aside-TakeBytes.field-0-is in
    subst (λ (s : ReadStep). IsFitRead c.args.self.now c.args.reader.now s) (c.in-Aside-TakeBytes.is ∙ ap steps.Aside own) c.requires.may

pub read_aside-requires-clause-may : goal.read_aside-requires-clause-may
read_aside-requires-clause-may g c = subst (λ (s : ReadStep). IsFitRead c.args.self.now c.args.reader.now s) c.in-Aside.is c.requires.may
