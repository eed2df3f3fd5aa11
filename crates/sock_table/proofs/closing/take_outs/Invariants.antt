use Rattle.std.proofs.Common.{◌≡◌, ℕ, ◌+◌, ◌-◌, ◌<◌, ◌≤◌, false, length, get_or}
use Rattle.std.specs.Vec.{vec_len, vec_capacity}
use Rattle.std.specs.Mem.Slots.{slots_items, slots_filled, slots_len}
use Rattle.std.specs.Mem.Slots.Ownership.{Filled}
use Rattle.sock_table.specs.ClosedSocketTable.{OutsOf}
use Rattle.sock_table.proofs.closing.take_outs.Given as goal

abbrev pub invariant-loop-k : goal.invariant-loop-k
invariant-loop-k g l = (slots_items l.table.slots ≡ slots_items l.fn.table.slots) × (slots_len l.table.slots ≡ slots_len l.fn.table.slots) × Filled (slots_filled l.table.slots) l.k (slots_len l.table.slots) × ((j : ℕ) → j < l.k → get_or (slots_filled l.table.slots) j false ≡ false) × (l.k ≤ l.requests)

abbrev pub decreases-loop-k : goal.decreases-loop-k
decreases-loop-k g l = l.requests - l.k

abbrev pub invariant-loop-link : goal.invariant-loop-link
invariant-loop-link g l = (slots_items l.table.slots ≡ slots_items l.fn.table.slots) × (slots_len l.table.slots ≡ slots_len l.fn.table.slots) × Filled (slots_filled l.table.slots) (l.requests + l.link) (slots_len l.table.slots) × ((j : ℕ) → j < l.requests + l.link → get_or (slots_filled l.table.slots) j false ≡ false)
    × (vec_len l.outs ≡ l.link) × (length l.outs.items ≡ l.link) × (vec_capacity l.outs ≡ l.links) × OutsOf l.requests l.link l.outs.items (slots_items l.fn.table.slots) × (l.link ≤ l.links)

abbrev pub decreases-loop-link : goal.decreases-loop-link
decreases-loop-link g l = l.links - l.link
