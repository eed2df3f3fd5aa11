use Rattle.std.proofs.Common.{◌≡◌}
use Rattle.sock_table.specs.ClosedSocketTable.{IsDoneSeat}
use Rattle.sock_table.specs.LinkPasses.{IsPass}
use Rattle.part_rows.proofs.sockets.renew.Given as goal

abbrev pub invariant-loop : goal.invariant-loop
invariant-loop l = IsDoneSeat l.table.rule.table.shared.table_id l.table.rule.plan l.seat × IsPass l.table.rule.table.shared.table_id l.table.rule.plan l.pass × (l.seat.me.0.share ≡ l.fn.seat.me.0.share)
