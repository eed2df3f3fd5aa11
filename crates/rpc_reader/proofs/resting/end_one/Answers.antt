use Rattle.std.proofs.Common.{inr}
use Rattle.corr_core.specs.IdSlotWord.{parts}
use Rattle.rpc_reader.specs.ReaderBooks.{Books, books}
use Rattle.rpc_reader.proofs.NotedCallEnds.{ended_last}
use Rattle.rpc_reader.proofs.resting.end_one.Goals as goal

pub returns-in-Ok-clause-ended : goal.returns-in-Ok-clause-ended
returns-in-Ok-clause-ended g c = let k = c.in-Ok.lock in let e = c.in-Ok.ensures in let b : Books = books c.args.calls.now in let seen = c.noted.new.seat.me.0 in
    inr (record {
      id = c.in-Some.id;
      some = c.in-Some.ensures.found.0;
      seen = seen;
      kept = c.in-Some.ensures.found.1;
      ends = inr (ended_last c.args.ids.now.plan.slots c.args.code c.in-Some.id k.slot c.lock.new.seat.me.0 e.locked.1.0 (parts k.word.0) k.content (record b { view = seen }) (books c.end_lost.new.calls) e.locked.0 e.inside e.of_range e.own e.locked.1.1 e.found_now c.end_lost.ensures.lost);
    })
