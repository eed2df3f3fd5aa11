use Rattle.std.proofs.Common.{◌≡◌, ◌+◌, length}
use Rattle.std.specs.Vec.{vec_len, vec_capacity}
use Rattle.sock_open.proofs.NewTableWords.{Housed}
use Rattle.sock_open.proofs.opening.house.Given as goal

abbrev pub invariant-loop : goal.invariant-loop
invariant-loop g l = (length l.homes.items ≡ l.counter) × (vec_len l.homes ≡ l.counter) × (vec_capacity l.homes ≡ l.plan.requests + l.plan.links)

abbrev pub invariant-loop-out : goal.invariant-loop-out
invariant-loop-out g l = Housed l.plan l.fn.outs.items l.yielded l.out-iterator.rest.items l.homes.items × (vec_len l.homes ≡ l.plan.requests + length l.yielded) × (vec_capacity l.homes ≡ l.plan.requests + l.plan.links)
