use Rattle.std.proofs.Common.{ℕ, [], Some, None, refl, ◌∙◌, subst}
use Rattle.rpc_client.proofs.CountedReferences.{holder_same, refs_then}
use Rattle.rpc_client.proofs.FindingReferences.{may_still}
use Rattle.rpc_reader.specs.ReaderBooks.{books}
use Rattle.rpc_reader.specs.PostingAtReadingEnd.{PostedAll}
use Rattle.rpc_reader.proofs.Locks.{open_still, rests_none, rests_then}
use Rattle.rpc_reader.proofs.ReaderSocket.{idle_done, none_may}
use Rattle.rpc_reader.proofs.reader.Reader.run.Goals as goal

pub fail_if-requires-clause-may : goal.fail_if-requires-clause-may
fail_if-requires-clause-may g c = let z = c.args.socks.now.rule.table.shared.table_id in let p = c.args.socks.now.rule.plan in may_still z p c.args.self.now.seat c.wait_open.new.seat (none_may z p c.args.self.now.seat c.requires.idle c.requires.none_) c.wait_open.ensures.rest.idle c.wait_open.ensures.refs

pub post_all-requires-clause-seat : goal.post_all-requires-clause-seat
post_all-requires-clause-seat g c = open_still c.args.ids.now.table.shared.table_id c.args.self.now.calls.seat c.read_all-how.new.calls.seat c.requires.ids c.read_all-how.ensures.rest

pub returns-in-None-clause-done : goal.returns-in-None-clause-done
returns-in-None-clause-done g c = let z = c.args.socks.now.rule.table.shared.table_id in let p = c.args.socks.now.rule.plan in idle_done z p c.wait_open.new.seat c.wait_open.ensures.rest.idle (holder_same p [] c.args.self.now.seat.me.0 c.requires.none_ c.wait_open.new.seat.me.0 c.wait_open.ensures.refs)

pub returns-in-None-clause-ids : goal.returns-in-None-clause-ids
returns-in-None-clause-ids g c = rests_none c.args.self.now.calls.seat c.requires.ids.free

pub returns-in-None-clause-ran : goal.returns-in-None-clause-ran
returns-in-None-clause-ran g c = record { id = None; noted = c.wait_open.new.seat.me.0; opened = c.in-None.ensures.opened; read = (refl, refl, refl) }

pub returns-in-Some-clause-done : goal.returns-in-Some-clause-done
returns-in-Some-clause-done g c = let z = c.args.socks.now.rule.table.shared.table_id in let p = c.args.socks.now.rule.plan in idle_done z p c.fail_if.new.seat c.fail_if.ensures.rest.idle
    (holder_same p [] c.args.self.now.seat.me.0 c.requires.none_ c.fail_if.new.seat.me.0 (refs_then c.args.self.now.seat.me.0 c.wait_open.new.seat.me.0 c.fail_if.new.seat.me.0 c.wait_open.ensures.refs c.fail_if.ensures.refs))

pub returns-in-Some-clause-share : goal.returns-in-Some-clause-share
returns-in-Some-clause-share g c = c.fail_if.ensures.rest.share ∙ c.wait_open.ensures.rest.share

pub returns-in-Some-clause-lists : goal.returns-in-Some-clause-lists
returns-in-Some-clause-lists g c = c.fail_if.ensures.lists ∙ c.wait_open.ensures.lists

pub returns-in-Some-clause-ids : goal.returns-in-Some-clause-ids
returns-in-Some-clause-ids g c = rests_then c.args.self.now.calls.seat c.read_all-how.new.calls.seat c.post_all.new.calls.seat c.read_all-how.ensures.rest c.post_all.ensures.rest

pub returns-in-Some-clause-ran : goal.returns-in-Some-clause-ran
returns-in-Some-clause-ran g c = record {
  id = Some c.in-Some.id;
  noted = c.wait_open.new.seat.me.0;
  opened = c.in-Some.ensures.opened;
  read = record {
    how = c.read_all-how.result;
    between = g.I.In.state c.read_all-how.new.inn;
    total = c.read_all-how.new.intake.total;
    met = books c.read_all-how.new.calls;
    read = c.read_all-how.ensures.read;
    failed = c.fail_if.ensures.by;
    posted = subst (λ (n : ℕ). PostedAll c.args.ids.now.plan c.args.self.now.link n c.args.calls.now (books c.read_all-how.new.calls) (books c.post_all.new.calls)) c.code.ensures.code c.post_all.ensures.posted;
    thrown = c.throw_if.ensures;
    calm = c.calm.ensures;
  };
}
