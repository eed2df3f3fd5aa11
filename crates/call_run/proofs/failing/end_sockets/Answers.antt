use Rattle.std.proofs.Common.{[], ◌∷◌, ◌++◌, ap, sym, ◌∙◌}
use Rattle.call_run.proofs.SocketsEndedByMain.{left_alone}
use Rattle.call_run.proofs.failing.end_sockets.Goals as goal

pub returns-clause-left : goal.returns-clause-left
returns-clause-left g c = left_alone c.args.table.now.rule.table.shared.table_id c.args.table.now.rule.plan c.args.seats.items c.push_reserved.new.self.items c.join_seats-seat.result c.end_each.new.seat
    c.join_seats-seat.ensures.share c.end_each.ensures.done c.end_each.ensures.share (c.push_reserved.ensures.items ∙ ap (λ l. l ++ c.end_each.new.seat ∷ []) c.requires.room.0)

pub returns-clause-ended : goal.returns-clause-ended
returns-clause-ended g c = record {
  joined = c.join_seats-seat.result.me.0;
  took_in = c.join_seats-seat.ensures.all;
  last = c.end_each.new.seat;
  failed = c.end_each.ensures.ended;
  alone = sym (c.push_reserved.ensures.items ∙ ap (λ l. l ++ c.end_each.new.seat ∷ []) c.requires.room.0);
}
