use Rattle.std.proofs.Common.{take}
use Rattle.rpc_reader.specs.ReaderIdSeat.{Rests}
use Rattle.rpc_reader.specs.ReaderBooks.{books}
use Rattle.rpc_reader.specs.CallsLeftAfterReading.{RestEnded}
use Rattle.rpc_reader.proofs.resting.end_rest.Given as goal

abbrev pub invariant-rests : goal.invariant-rests
invariant-rests g l = record {
  rest : Rests l.fn.calls.seat l.calls.seat;
  ended : RestEnded l.ids.plan l.code (take l.operation-index l.operations) (books l.fn.calls) (books l.calls);
}
