use Rattle.std.proofs.Common.{◌≡◌, ◌-◌, ◌<◌, ℕ}
use Rattle.sock_model.specs.MarkWeights.{is_tried}
use Rattle.sock_model.specs.SlotRows.{marks_of}
use Rattle.sock_table.specs.ReferenceCalls.{IsBetween, SameTokens}
use Rattle.sock_table.specs.LinkPasses.{TriedTo}
use Rattle.sock_rule.specs.SocketSeatSplits.{IsSeat}
use Rattle.sock_table.proofs.table.SockTable.create.Given as goal

abbrev pub invariant-loop-at : goal.invariant-loop-at
invariant-loop-at g l = IsSeat l.self.rule.table.shared.table_id l.self.rule.plan l.seat × (l.pass ≡ l.fn.pass) × (l.at-end ≡ l.initial.at-end) × (l.seat.me.1 ≡ l.fn.seat.me.1) × IsBetween l.self.rule.plan l.seat.me.0 × ((j : ℕ) → j < l.at → 0 < marks_of is_tried j l.seat.me.0) × SameTokens l.self.rule.plan l.fn.seat.me.0 l.seat.me.0 × TriedTo l.at l.fn.seat.me.0 l.seat.me.0

abbrev pub decreases-loop-at : goal.decreases-loop-at
decreases-loop-at g l = l.at-end - l.at
