use Rattle.sock_model.specs.Rule.{MOST_ACCEPTED}
use Rattle.sock_open.proofs.SeatsHoldingNothing.{done_between}
use Rattle.write_chain.proofs.SeatBetweenMessages.{kept_free}
use Rattle.chain_bench.proofs.AcceptedSendsOfSeat.{same_room_for}
use Rattle.chain_bench.proofs.crew.sender_of.Goals as goal

pub find-requires-clause-seat : goal.find-requires-clause-seat
find-requires-clause-seat c = c.requires.seat.done.seat

pub returns : goal.returns
returns c = let z = c.args.table.now.rule.table.shared.table_id in let p = c.args.table.now.rule.plan in let f = kept_free z p c.args.seat c.find.new.seat c.requires.seat c.find.ensures.seat c.find.ensures.slots (c.find.ensures.between (done_between z p c.args.seat c.requires.seat.done)) c.find.ensures.same in record {
  ready = record { done = f.done; known = c.in_ok-id.ensures.found.0; share = f.share; room = f.room };
  room = same_room_for MOST_ACCEPTED c.args.seat.me.0 c.find.new.seat.me.0 c.find.ensures.same.lists c.requires.room;
}
