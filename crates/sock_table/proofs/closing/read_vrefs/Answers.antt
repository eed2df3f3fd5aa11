use Rattle.std.proofs.Common.{◌≡◌, refl, ap, subst, length-set, ◌∙◌}
use mathlib.Core.Option.{some}
use lib.ListN.{get_elem?}
use Rattle.std.specs.Mem.Slots.{slots_items}
use Rattle.sock_words.specs.declared.vref.Vref.{Vref}
use Rattle.sock_model.specs.SocketTableLayout.{ref_index}
use Rattle.sock_table.proofs.CloseLoopLasts.{one_more}
use Rattle.sock_table.proofs.closing.read_vrefs.Goals as goal

pub loop-slot-preserved : goal.loop-slot-preserved
loop-slot-preserved g c = let h = c.loop-slot.invariant in let found : Vref = record { 0 = c.word.result } in (
  length-set c.loop-slot.vrefs.items c.loop-slot.slot found ∙ h.0,
  one_more (λ (x : Vref). x.0) ref_index c.loop-slot.vrefs.items (slots_items c.args.table.now.words) c.loop-slot.slot _ c.word.result found h.0 c.loop-slot-test.true
      (subst (λ i. get_elem? (slots_items c.args.table.now.words) i ≡ some c.word.result) (c.ref_index.ensures ∙ ap ref_index c.from.ensures) c.word.ensures) refl h.1,
)
