use Rattle.std.proofs.Common.{◌≡◌, refl, length-set, ◌∙◌, subst, arith}
use mathlib.Core.Option.{some}
use lib.ListN.{get_elem?}
use Rattle.std.specs.Mem.Slots.{slots_items}
use Rattle.sock_words.specs.declared.id_word.IdWord.{IdWord}
use Rattle.corr_id.proofs.IdCloseLoops.{one_more, low_more, low_all}
use Rattle.corr_id.proofs.closing.read_words.Goals as goal

pub loop-slot-preserved : goal.loop-slot-preserved
loop-slot-preserved g c = let h = c.loop-slot.invariant in let found : IdWord = record { 0 = c.word.result } in (
  length-set c.loop-slot.words.items c.loop-slot.slot found ∙ h.0,
  one_more c.loop-slot.words.items (slots_items c.args.table.now.words) c.loop-slot.slot c.word.result _ found h.0 c.loop-slot-test.true (subst (λ x. get_elem? (slots_items c.args.table.now.words) x ≡ some c.word.result) c.id_index.ensures c.word.ensures) refl h.1,
  (let fits = c.word.type_inv in low_more c.loop-slot.words.items c.loop-slot.slot _ found h.0 c.loop-slot-test.true (omega (arith, fits)) h.2),
)

pub returns-clause-low : goal.returns-clause-low
returns-clause-low g c = let h = c.loop-slot.invariant in let past = c.loop-slot-test.false in low_all c.loop-slot.words.items c.loop-slot.slot (omega (arith, past, h.0)) h.2
