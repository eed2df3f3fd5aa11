use Rattle.sock_table.specs.ClosedSocketTable.{IsDoneSeat}
use Rattle.sock_table.specs.ReferenceCalls.{Knows}
use Rattle.table_bench.proofs.pairs.poke.Given as goal

abbrev pub invariant-loop : goal.invariant-loop
invariant-loop l = IsDoneSeat l.table.rule.table.shared.table_id l.table.rule.plan l.seat × Knows l.table.rule.plan l.seat.me.0 l.id.0
