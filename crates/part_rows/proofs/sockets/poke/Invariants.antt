use Rattle.std.proofs.Common.{◌≡◌}
use Rattle.sock_table.specs.ClosedSocketTable.{IsDoneSeat}
use Rattle.sock_table.specs.ReferenceCalls.{Knows}
use Rattle.part_rows.proofs.sockets.poke.Given as goal

abbrev pub invariant-loop : goal.invariant-loop
invariant-loop l = IsDoneSeat l.table.rule.table.shared.table_id l.table.rule.plan l.seat × Knows l.table.rule.plan l.seat.me.0 l.id.0 × (l.seat.me.0.share ≡ l.fn.seat.me.0.share)
