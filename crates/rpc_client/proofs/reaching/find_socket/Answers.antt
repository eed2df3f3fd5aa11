use Rattle.rpc_client.proofs.FindingReferences.{is_here, here_refs, here_seen, gone_seen}
use Rattle.rpc_client.proofs.reaching.find_socket.Goals as goal

pub returns-in-Ok-clause-reached : goal.returns-in-Ok-clause-reached
returns-in-Ok-clause-reached g c = is_here c.args.table.now.rule.plan c.args.name c.in-Some.id c.args.seat.now.me.0 c.find.new.seat.me.0 c.add_reference.new.seat.me.0 c.in-Some.ensures.found c.in-Ok.sock c.in-Ok.ensures.held c.in-Ok.ensures.stays

pub returns-in-Ok-clause-refs : goal.returns-in-Ok-clause-refs
returns-in-Ok-clause-refs g c = here_refs c.args.table.now.rule.plan c.args.name c.in-Some.id c.args.seat.now.me.0 c.find.new.seat.me.0 c.add_reference.new.seat.me.0 c.in-Some.ensures.found c.in-Ok.sock c.in-Ok.ensures.held

pub returns-in-Ok-clause-seen : goal.returns-in-Ok-clause-seen
returns-in-Ok-clause-seen g c = here_seen c.args.table.now.rule.plan c.args.name c.in-Some.id c.args.seat.now.me.0 c.find.new.seat.me.0 c.add_reference.new.seat.me.0 c.in-Some.ensures.found c.in-Ok.sock c.in-Ok.ensures.held

pub returns-in-Err-clause-seen : goal.returns-in-Err-clause-seen
returns-in-Err-clause-seen g c = gone_seen c.args.table.now.rule.plan c.args.name c.in-Some.id c.args.seat.now.me.0 c.find.new.seat.me.0 c.add_reference.new.seat.me.0 c.in-Some.ensures.found c.in-Err.gone.found.0 c.in-Err.ensures.gone
