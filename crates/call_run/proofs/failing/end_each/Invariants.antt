use Rattle.std.proofs.Common.{◌≡◌, take}
use Rattle.sock_table.specs.ClosedSocketTable.{IsDoneSeat}
use Rattle.call_run.specs.EndingOfSockets.{EndedEach}
use Rattle.call_run.proofs.failing.end_each.Given as goal

abbrev pub invariant-ends : goal.invariant-ends
invariant-ends g l = record {
  done : IsDoneSeat l.table.rule.table.shared.table_id l.table.rule.plan l.seat;
  share : l.seat.me.0.share ≡ l.fn.seat.me.0.share;
  ended : EndedEach l.table.rule.plan (take l.operation-index l.opens) l.fn.seat.me.0 l.seat.me.0;
}
