use Rattle.std.proofs.Common.{◌≡◌, ◌<◌, length, get_or, sym, ap, ◌∙◌, arith}
use Rattle.std.proofs.lemmas.List.{get_or_read}
use Rattle.corr_core.specs.IdTableLayout.{tag_index}
use Rattle.call_slots.specs.CallSlotState.{SlotState}
use Rattle.call_slots.proofs.TableMadeBySteps.{puts}
use Rattle.call_slots.proofs.call_slots.CallSlots.put_call.Goals as goal

pub returns : goal.returns
returns c =
    let s = c.self.inside in
    let low : c.args.slot < s.plan.slots = omega (arith, c.requires, ap (λ (s : SlotState). s.plan.slots) c.self.view_is) in
    let inside : c.tag_index.result < length s.words.items = omega (arith, low, c.tag_index.ensures, c.self.invariant.0) in
    let tag : c.index.result.now ≡ get_or s.words.items (tag_index c.args.slot) 0 = get_or_read s.words.items c.tag_index.result c.index.result.now inside c.index.ensures 0 ∙ ap (λ x. get_or s.words.items x 0) c.tag_index.ensures in
    rw (sym c.self.view_is, c.from.ensures, tag) (puts s.plan s.words.items s.homes.items c.args.slot c.args.call)
