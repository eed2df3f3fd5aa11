use Rattle.std.proofs.Common.{arith}
use Rattle.chain_bench.proofs.AcceptedSendsOfSeat.{room_for_one, one_less}
use Rattle.chain_bench.proofs.sending.send_each.Goals as goal

pub send-sock-requires-clause-room : goal.send-sock-requires-clause-room
send-sock-requires-clause-room g c = room_for_one _ c.sends.seat.me.0 (omega arith) c.sends.invariant.room

pub sends-preserved : goal.sends-preserved
sends-preserved g c = record {
  holding = c.send-sock.ensures.holding;
  room = one_less _ _ c.sends.seat.me.0 c.send-sock.new.seat.me.0 (omega arith) c.send-sock.ensures.lists c.sends.invariant.room;
  end = c.sends.invariant.end;
}
