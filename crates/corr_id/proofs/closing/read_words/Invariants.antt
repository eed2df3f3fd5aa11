use Rattle.std.proofs.Common.{◌≡◌, ◌<◌, ℕ, length, map, slice_index}
use Rattle.std.specs.Mem.Slots.{slots_items}
use Rattle.corr_id.specs.ClosedIdTable.{AreIdWords}
use Rattle.corr_id.proofs.closing.read_words.Given as goal

abbrev pub invariant-loop-slot : goal.invariant-loop-slot
invariant-loop-slot g l = (length l.words.items ≡ l.slots) × AreIdWords l.slot l.words.items (slots_items l.table.words) × ((j : ℕ) → j < l.slot → slice_index (map (λ w. w.0) l.words.items) j < 18446744073709551616)
