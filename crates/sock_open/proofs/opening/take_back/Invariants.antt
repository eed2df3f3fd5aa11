use Rattle.std.proofs.Common.{◌≡◌, ◌+◌, ◌-◌, ◌≤◌, ℕ, length}
use lib.ListN.{get_elem?}
use Rattle.std.specs.Vec.{vec_len, vec_capacity}
use Rattle.sock_table.specs.ClosedSocketTable.{OutsOf}
use Rattle.sock_open.proofs.opening.take_back.Given as goal

abbrev pub invariant-loop-k : goal.invariant-loop-k
invariant-loop-k g l = (length l.homes.items ≡ l.requests + l.links) × ((j : ℕ) → l.k ≤ j → get_elem? l.homes.items (l.requests + j) ≡ get_elem? l.fn.homes.items (l.requests + j))
    × (length l.back.items ≡ l.k) × (vec_len l.back ≡ l.k) × (vec_capacity l.back ≡ l.links) × (l.k ≤ l.links) × OutsOf l.requests l.k l.back.items l.fn.homes.items

abbrev pub decreases-loop-k : goal.decreases-loop-k
decreases-loop-k g l = l.links - l.k
