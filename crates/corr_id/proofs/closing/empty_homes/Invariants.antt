use Rattle.std.proofs.Common.{◌≡◌, ℕ, ◌-◌, ◌<◌, false, get_or}
use Rattle.std.specs.Mem.Slots.{slots_filled, slots_len}
use Rattle.std.specs.Mem.Slots.Ownership.{Filled}
use Rattle.corr_id.proofs.closing.empty_homes.Given as goal

abbrev pub invariant-loop-k : goal.invariant-loop-k
invariant-loop-k g l = Filled (slots_filled l.table.slots) l.k (slots_len l.table.slots) × ((j : ℕ) → j < l.k → get_or (slots_filled l.table.slots) j false ≡ false)

abbrev pub decreases-loop-k : goal.decreases-loop-k
decreases-loop-k g l = slots_len l.table.slots - l.k
