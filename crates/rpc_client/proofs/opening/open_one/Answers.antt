use Rattle.std.proofs.Common.{◌+◌}
use Rattle.sock_model.specs.SocketTableLayout.{open_index, name_index}
use Rattle.rpc_client.proofs.FindingReferences.{seen_same, seen_then, seen_put}
use Rattle.rpc_client.proofs.opening.open_one.Goals as goal

pub returns-in-Ok-clause-seen : goal.returns-in-Ok-clause-seen
returns-in-Ok-clause-seen g c = let p = c.args.table.now.rule.plan in seen_then c.args.seat.now.me.0 c.note.new.seat.me.0 c.publish.new.seat.me.0
    (seen_then c.args.seat.now.me.0 c.create.new.seat.me.0 c.note.new.seat.me.0 (seen_same c.args.seat.now.me.0 c.create.new.seat.me.0 c.in-Ok.ensures.created.found) (seen_put (open_index p c.args.operation) (c.in-Ok.id.0 + 1) c.create.new.seat.me c.note.new.seat.me c.note.ensures.noted))
    (seen_put (name_index p c.args.name) (c.in-Ok.id.0 + 1) c.note.new.seat.me c.publish.new.seat.me c.publish.ensures.published)
