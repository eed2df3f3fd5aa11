use Rattle.std.proofs.Common.{length}
use Rattle.rpc_reader.specs.ReaderIdSeat.{Rests}
use Rattle.rpc_reader.specs.ReaderBooks.{books}
use Rattle.rpc_reader.specs.Met.{MetAll}
use Rattle.rpc_reader.proofs.cutting.meet_all.Given as goal

abbrev pub invariant-frames : goal.invariant-frames
invariant-frames g l = record {
  rest : Rests l.fn.calls.seat l.calls.seat;
  met : MetAll l.ids.plan.slots l.fn.cutter.bytes l.cutter.bytes (books l.fn.calls) (books l.calls);
}

abbrev pub decreases-frames : goal.decreases-frames
decreases-frames g l = length l.cutter.bytes
