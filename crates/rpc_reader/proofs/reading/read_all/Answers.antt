use Rattle.std.proofs.Common.{refl, subst}
use Rattle.rpc_reader.specs.ReaderBooks.{books}
use Rattle.rpc_reader.specs.LinkReading.{ReadOnce}
use Rattle.rpc_reader.proofs.Locks.{open_still, rests_none, rests_then}
use Rattle.rpc_reader.proofs.SuccessiveTakes.{read_none, read_more, read_last}
use Rattle.rpc_reader.proofs.reading.read_all.Goals as goal

pub reads-init : goal.reads-init
reads-init g c = record {
  can_go = tt;
  is_finite = tt;
  rest = rests_none c.args.calls.now.seat c.requires.seat.free;
  on = read_none c.args.ids.now.plan.slots c.args.ending (g.I.In.state c.args.inn.now) (books c.args.calls.now) c.args.intake.now c.requires.new.0 c.requires.new.1 refl;
}

pub read_once-requires-clause-seat : goal.read_once-requires-clause-seat
read_once-requires-clause-seat g c = open_still c.args.ids.now.table.shared.table_id c.args.calls.now.seat c.reads.calls.seat c.requires.seat c.reads.invariant.rest

pub reads-preserved : goal.reads-preserved
reads-preserved g c = record {
  can_go = tt;
  is_finite = tt;
  rest = rests_then c.args.calls.now.seat c.reads.calls.seat c.read_once.new.calls.seat c.reads.invariant.rest c.read_once.ensures.rest;
  on = read_more c.args.ids.now.plan.slots c.args.ending (g.I.In.state c.args.inn.now) (books c.args.calls.now) (g.I.In.state c.reads.inn) (g.I.In.state c.read_once.new.inn) c.reads.intake c.read_once.new.intake (books c.reads.calls) (books c.read_once.new.calls) c.reads.invariant.on
      (subst (λ o. ReadOnce c.args.ids.now.plan.slots c.args.ending o (g.I.In.state c.reads.inn) (g.I.In.state c.read_once.new.inn) c.reads.intake c.read_once.new.intake (books c.reads.calls) (books c.read_once.new.calls)) c.in_default.is c.read_once.ensures.read);
}

pub returns-in-Some-read_once-clause-rest : goal.returns-in-Some-read_once-clause-rest
returns-in-Some-read_once-clause-rest g c = rests_then c.args.calls.now.seat c.reads.calls.seat c.read_once.new.calls.seat c.reads.invariant.rest c.read_once.ensures.rest

pub returns-in-Some-read_once-clause-read : goal.returns-in-Some-read_once-clause-read
returns-in-Some-read_once-clause-read g c = read_last c.args.ids.now.plan.slots c.args.ending (g.I.In.state c.args.inn.now) (books c.args.calls.now) (g.I.In.state c.reads.inn) (g.I.In.state c.read_once.new.inn) c.reads.intake c.read_once.new.intake (books c.reads.calls) (books c.read_once.new.calls) c.reads.invariant.on c.in-Some-read_once.how c.in-Some-read_once.ensures.read
