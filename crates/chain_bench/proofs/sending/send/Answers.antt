use Rattle.chain_bench.proofs.AcceptedSendsOfSeat.{more_then}
use Rattle.chain_bench.proofs.sending.send.Goals as goal

pub returns-in-Ok-clause-lists : goal.returns-in-Ok-clause-lists
returns-in-Ok-clause-lists g c = more_then c.args.seat.now.me.0 c.hand_in.new.seat.me.0 c.follow.new.seat.me.0 c.hand_in.ensures.lists c.follow.ensures.lists
