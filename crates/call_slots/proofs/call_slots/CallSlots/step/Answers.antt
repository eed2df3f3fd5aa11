use Rattle.std.proofs.Common.{◌≡◌, length, length-set, get_or, set, sym, ap, ◌∙◌, subst, arith}
use Rattle.std.proofs.lemmas.List.{with_items_is}
use Rattle.std.specs.Vec.{with_items}
use Rattle.std.specs.Prelude.{slice_index, slice_set}
use Rattle.call_points.specs.AsideCodeSteps.{step_of}
use Rattle.call_slots.specs.CallSlotState.{SlotState}
use Rattle.call_slots.specs.WordOfStep.{index_of, next_of, IsWithin}
use Rattle.call_slots.specs.CallSlotSteps.{Makes, word_found}
use Rattle.call_slots.proofs.TableMadeBySteps.{slots_of, makes}
use Rattle.call_slots.proofs.call_slots.CallSlots.step.Goals as goal

pub returns : goal.returns
returns c =
    let step = c.args.step in
    let p = c.self.inside.plan in
    let here = index_of p step in
    let homes = c.self.inside.homes.items in
    let old : SlotState = slots_of p c.self.inside.words.items homes in
    let within : IsWithin p step = subst (λ (s : SlotState). IsWithin s.plan step) (sym c.self.view_is) c.requires.0 in
    let found : c.step_word.result ≡ get_or old.words here 0 = c.step_word.ensures.found ∙ ap (λ ws. slice_index ws here) c.deref_mut.ensures.value in
    let words : c.step_word.new.words ≡ set old.words here (next_of step (get_or old.words here 0)) = c.step_word.ensures.words ∙ ap (λ ws. slice_set ws here (next_of step (slice_index ws here))) c.deref_mut.ensures.value in
    let kept : length c.step_word.new.words ≡ c.self.inside.words.len = omega (arith, ap length words, length-set old.words here (next_of step (get_or old.words here 0)), c.self.inside.words.ok) in
    let stored : set old.words here (next_of step (get_or old.words here 0)) ≡ (with_items c.self.inside.words c.step_word.new.words).items = sym words ∙ sym (with_items_is c.self.inside.words c.step_word.new.words kept) in
    let new : SlotState = slots_of p (with_items c.self.inside.words c.step_word.new.words).items homes in
    λ asked.
    let whole = step_of asked step in
    subst (λ (s : SlotState). Makes s whole (word_found whole c.step_word.result) new) c.self.view_is
    (subst (λ n. Makes old whole (word_found whole n) new) (sym found)
    (subst (λ ws. Makes old whole (word_found whole (get_or old.words here 0)) (slots_of p ws homes)) stored (makes old asked step within)))
