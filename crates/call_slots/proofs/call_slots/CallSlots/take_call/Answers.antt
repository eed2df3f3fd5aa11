use Rattle.std.proofs.Common.{◌≡◌, ◌<◌, None, length, get_or, sym, ap, ◌∙◌, arith}
use Rattle.std.proofs.lemmas.List.{get_or_read}
use Rattle.call_slots.specs.CallSlotState.{SlotState}
use Rattle.call_slots.proofs.TableMadeBySteps.{takes}
use Rattle.call_slots.proofs.call_slots.CallSlots.take_call.Goals as goal

pub returns : goal.returns
returns c =
    let s = c.self.inside in
    let at = c.from.result in
    let inside : at < length s.homes.items = omega (arith, c.requires, ap (λ (s : SlotState). s.plan.slots) c.self.view_is, c.from.ensures, c.self.invariant.1) in
    let lies : c.take.result ≡ get_or s.homes.items at None = c.take.ensures.value ∙ get_or_read s.homes.items at c.index_mut.result.now inside c.index_mut.ensures.value None in
    rw (sym c.self.view_is, sym c.from.ensures, c.take.ensures.after, lies) (takes s.plan s.words.items s.homes.items at)
