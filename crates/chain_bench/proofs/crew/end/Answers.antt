use Rattle.std.proofs.Common.{arith, ap}
use Rattle.chain_bench.proofs.AcceptedSendsOfSeat.{five_done}
use Rattle.chain_bench.proofs.crew.end.Goals as goal
use Rattle.sock_words.specs.Totals.{total}

pub close-requires-clause-seats : goal.close-requires-clause-seats
close-requires-clause-seats c = let s = c.requires.sent in five_done _ _ c.args.main c.args.sent.one.seat c.args.sent.two.seat c.args.sent.three.seat c.args.sent.four.seat c.in-Ok.seats.items c.in-Ok.ensures.items c.requires.main.0 s.one.0 s.two.0 s.three.0 s.four.0

pub close-requires-clause-all : goal.close-requires-clause-all
close-requires-clause-all c = let s = c.requires.sent in let e = ap (total (λ s. s.me.0.share)) c.in-Ok.ensures.items in omega (arith, c.requires.main.1, s.one.1, s.two.1, s.three.1, s.four.1, c.requires.all)
