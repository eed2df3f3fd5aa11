use Rattle.std.proofs.Common.{take}
use Rattle.rpc_reader.specs.ReaderIdSeat.{Rests}
use Rattle.rpc_reader.specs.ReaderBooks.{books}
use Rattle.rpc_reader.specs.PostingAtReadingEnd.{PostedAll}
use Rattle.rpc_reader.proofs.posting.post_all.Given as goal

abbrev pub invariant-posts : goal.invariant-posts
invariant-posts g l = record {
  rest : Rests l.fn.calls.seat l.calls.seat;
  posted : PostedAll l.ids.plan l.link l.code (take l.operation-index l.operations) (books l.fn.calls) (books l.calls);
}
