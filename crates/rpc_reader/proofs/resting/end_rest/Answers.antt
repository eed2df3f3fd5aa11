use Rattle.rpc_reader.specs.ReaderBooks.{books}
use Rattle.rpc_reader.proofs.Locks.{open_still, rests_then}
use Rattle.rpc_reader.proofs.NotedCallEnds.{ended_next}
use Rattle.rpc_reader.proofs.resting.end_rest.Goals as goal

pub end_one-requires-clause-seat : goal.end_one-requires-clause-seat
end_one-requires-clause-seat g c = open_still c.args.ids.now.table.shared.table_id c.args.calls.now.seat c.rests.calls.seat c.requires.seat c.rests.invariant.rest

pub rests-preserved : goal.rests-preserved
rests-preserved g c = record {
  rest = rests_then c.args.calls.now.seat c.rests.calls.seat c.end_one.new.calls.seat c.rests.invariant.rest c.end_one.ensures.ids;
  ended = ended_next c.args.ids.now.plan c.args.code c.args.operations.now c.rests.operation-index (books c.args.calls.now) (books c.rests.calls) (books c.end_one.new.calls) c.rests-test.true c.rests.invariant.ended c.end_one.ensures.ended;
}
