use Rattle.std.proofs.Common.{◌≡◌, ◌+◌, ◌*◌, ◌≤◌, length, sum}
use Rattle.rpc_server.proofs.service.sum_of.Given as goal

abbrev pub invariant-loop-payload : goal.invariant-loop-payload
invariant-loop-payload l = (l.total + sum l.payload.items ≡ sum l.fn.payload.items) × (l.total + 255 * length l.payload.items ≤ 255 * length l.fn.payload.items)

abbrev pub decreases-loop-payload : goal.decreases-loop-payload
decreases-loop-payload l = length l.payload.items
