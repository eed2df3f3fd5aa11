use Rattle.std.proofs.Common.{◌≡◌, refl, subst, length-set, ◌∙◌}
use mathlib.Core.Option.{some}
use lib.ListN.{get_elem?}
use Rattle.std.specs.Mem.Slots.{slots_items}
use Rattle.sock_words.specs.declared.place_word.PlaceWord.{PlaceWord}
use Rattle.sock_model.specs.SocketTableLayout.{place_index}
use Rattle.sock_table.proofs.CloseLoopLasts.{one_more}
use Rattle.sock_table.proofs.closing.read_places.Goals as goal

pub loop-place-preserved : goal.loop-place-preserved
loop-place-preserved g c = let h = c.loop-place.invariant in let found : PlaceWord = record { 0 = c.word.result } in (
  length-set c.loop-place.places.items c.loop-place.place found ∙ h.0,
  one_more (λ (x : PlaceWord). x.0) (place_index c.args.plan.now) c.loop-place.places.items (slots_items c.args.table.now.words) c.loop-place.place _ c.word.result found h.0 (rw (← c.place_count-place-end.ensures) c.loop-place-test.true)
      (subst (λ i. get_elem? (slots_items c.args.table.now.words) i ≡ some c.word.result) c.place_index.ensures c.word.ensures) refl h.1,
)
