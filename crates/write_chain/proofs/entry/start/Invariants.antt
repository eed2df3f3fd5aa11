use Rattle.std.proofs.Common.{◌≡◌, ◌-◌}
use Rattle.sock_rule.specs.SocketSeatSplits.{IsSeat}
use Rattle.write_chain.proofs.Accepting.{Asking}
use Rattle.write_chain.proofs.entry.start.Given as goal

abbrev pub invariant-loop-at : goal.invariant-loop-at
invariant-loop-at g l = IsSeat l.table.rule.table.shared.table_id l.table.rule.plan l.seat × (l.sock ≡ l.fn.sock) × (l.msg ≡ l.fn.msg) × (l.at-end ≡ l.initial.at-end) × (l.seat.me.1 ≡ l.fn.seat.me.1) × Asking l.table.rule.plan l.fn.sock.id.0 l.at l.fn.seat.me.0 l.seat.me.0

abbrev pub decreases-loop-at : goal.decreases-loop-at
decreases-loop-at g l = l.at-end - l.at
