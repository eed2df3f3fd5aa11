use Rattle.std.proofs.Common.{◌∙◌}
use Rattle.call_run.proofs.SocketsEndedByMain.{ended_next}
use Rattle.call_run.proofs.failing.end_each.Goals as goal

pub ends-preserved : goal.ends-preserved
ends-preserved g c = let i = c.ends.invariant in let e = c.end_one.ensures in record {
  done = e.done;
  share = e.share ∙ i.share;
  ended = ended_next c.args.table.now.rule.plan c.args.opens.now c.ends.operation-index c.args.seat.now.me.0 c.ends.seat.me.0 c.end_one.new.seat.me.0 c.ends-test.true i.ended e.ended;
}
