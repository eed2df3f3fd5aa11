use Rattle.std.proofs.Common.{◌≡◌, ◌<◌, None, length, get_or, sym, ap, ◌∙◌, subst, arith}
use Rattle.std.specs.Option.{option_copied}
use Rattle.std.proofs.lemmas.List.{get_or_read}
use lib.ListN.{get_elem?}
use Rattle.seat_programs.specs.FoundAndChangedAside.{call_at}
use Rattle.call_slots.specs.CallSlotState.{SlotState, as_found}
use Rattle.call_slots.proofs.TableMadeBySteps.{found_at}
use Rattle.call_slots.proofs.call_slots.CallSlots.call_at.Goals as goal

pub returns : goal.returns
returns c =
    let hs = c.self.inside.homes.items in
    let slot = c.args.slot in
    let inside : c.from.result < length hs = omega (arith, c.requires, ap (λ (s : SlotState). s.plan.slots) c.self.view_is, c.from.ensures, c.self.invariant.1) in
    let lies : option_copied c.as_ref.result ≡ get_or hs slot None =
    c.as_ref.ensures.value ∙ get_or_read hs c.from.result c.index.result.now inside c.index.ensures None ∙ ap (λ i. get_or hs i None) c.from.ensures in
    subst (λ (s : SlotState). call_at (get_elem? s.homes slot) ≡ as_found (option_copied c.as_ref.result)) c.self.view_is (found_at hs slot ∙ ap as_found (sym lies))
