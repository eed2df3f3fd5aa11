use Rattle.rpc_reader.specs.ReaderBooks.{books}
use Rattle.rpc_reader.proofs.Locks.{open_still, rests_then}
use Rattle.rpc_reader.proofs.PostsToEachCall.{posted_next}
use Rattle.rpc_reader.proofs.posting.post_all.Goals as goal

pub posts-preserved : goal.posts-preserved
posts-preserved g c = record {
  rest = rests_then c.args.calls.now.seat c.posts.calls.seat c.post_one.new.calls.seat c.posts.invariant.rest c.post_one.ensures.rest;
  posted = posted_next c.args.ids.now.plan c.args.link c.args.code c.args.operations.now c.posts.operation-index (books c.args.calls.now) (books c.posts.calls) (books c.post_one.new.calls) c.posts-test.true c.posts.invariant.posted c.post_one.ensures.posted;
}

pub post_one-requires-clause-seat : goal.post_one-requires-clause-seat
post_one-requires-clause-seat g c = open_still c.args.ids.now.table.shared.table_id c.args.calls.now.seat c.posts.calls.seat c.requires.seat c.posts.invariant.rest
