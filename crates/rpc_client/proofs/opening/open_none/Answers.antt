use Rattle.sock_model.specs.SocketTableLayout.{open_index}
use Rattle.rpc_client.proofs.FindingReferences.{seen_same, seen_then, seen_put}
use Rattle.rpc_client.proofs.opening.open_none.Goals as goal
use Rattle.sock_words.specs.PackedWords.{NO_SOCKET}

pub returns-clause-seen : goal.returns-clause-seen
returns-clause-seen g c = seen_then c.args.seat.now.me.0 c.finish_link.new.seat.me.0 c.note.new.seat.me.0 (seen_same c.args.seat.now.me.0 c.finish_link.new.seat.me.0 c.finish_link.ensures.finished.found) (seen_put (open_index c.args.table.now.rule.plan c.args.operation) NO_SOCKET c.finish_link.new.seat.me c.note.new.seat.me c.note.ensures.noted)
