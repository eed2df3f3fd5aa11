use Rattle.sock_open.proofs.SeatsHoldingNothing.{done_between, kept_done}
use Rattle.table_bench.proofs.pairs.pairs.Goals as goal

pub find-requires-clause-seat : goal.find-requires-clause-seat
find-requires-clause-seat c = c.requires.seat.seat

pub poke-requires-clause-seat : goal.poke-requires-clause-seat
poke-requires-clause-seat c = let z = c.args.table.now.rule.table.shared.table_id in let p = c.args.table.now.rule.plan in kept_done z p c.args.seat c.find.new.seat c.requires.seat c.find.ensures.seat c.find.ensures.slots (c.find.ensures.between (done_between z p c.args.seat c.requires.seat)) c.find.ensures.same
