use Rattle.std.proofs.Common.{◌≡◌, ◌+◌, ◌≤◌, ℕ, length, reverse}
use Rattle.std.specs.Vec.{vec_len, vec_capacity}
use Rattle.sock_open.specs.SocketTableOpening.{MayBegin}
use Rattle.sock_open.specs.NewTableContents.{AreNewSeats, PassesFrom}
use Rattle.sock_open.proofs.SeatsOfNewTable.{First}
use Rattle.sock_open.proofs.opening.deal.Given as goal
use Rattle.sock_words.specs.Totals.{total}

abbrev pub invariant-loop-k : goal.invariant-loop-k
invariant-loop-k g l = let z = l.rule.table.shared.table_id in let p = l.rule.plan in
    (n : ℕ) × (spare : ℕ) × (n + l.k ≡ p.links) × (spare + l.k ≡ 511) × First z p n spare p.seats l.first × PassesFrom z p n (reverse l.passes.items) × (length l.passes.items ≡ l.k) × (vec_len l.passes ≡ l.k) × (vec_capacity l.passes ≡ p.links) × MayBegin p

abbrev pub invariant-loop : goal.invariant-loop
invariant-loop g l = let z = l.rule.table.shared.table_id in let p = l.rule.plan in
    (spare : ℕ) × (share : ℕ) × (255 ≤ spare + l.counter) × (share + l.counter ≡ p.seats + 1) × First z p 0 spare share l.first × PassesFrom z p 0 l.passes.items × (length l.passes.items ≡ p.links)
    × AreNewSeats z p l.seats.items × (total (λ s. s.me.0.share) l.seats.items + 1 ≡ l.counter) × (length l.seats.items + 1 ≡ l.counter) × (vec_len l.seats + 1 ≡ l.counter) × (vec_capacity l.seats ≡ p.seats) × MayBegin p
