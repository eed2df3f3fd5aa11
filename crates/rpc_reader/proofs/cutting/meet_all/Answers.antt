use Rattle.rpc_reader.specs.ReaderBooks.{books}
use Rattle.rpc_reader.proofs.Locks.{open_still, rests_none, rests_then}
use Rattle.prpc_frame.specs.FrameMeaning.{fault_of}
use Rattle.rpc_reader.proofs.FramesMetInTurn.{met_none, met_next, stops_faulty}
use Rattle.rpc_reader.proofs.cutting.meet_all.Goals as goal

pub frames-init : goal.frames-init
frames-init g c = record { rest = rests_none c.args.calls.now.seat c.requires.free; met = met_none c.args.ids.now.plan.slots c.args.cutter.now.bytes (books c.args.calls.now) }

pub meet-requires : goal.meet-requires
meet-requires g c = open_still c.args.ids.now.table.shared.table_id c.args.calls.now.seat c.frames.calls.seat c.requires c.frames.invariant.rest

pub frames-preserved : goal.frames-preserved
frames-preserved g c = record {
  rest = rests_then c.args.calls.now.seat c.frames.calls.seat c.meet.new.calls.seat c.frames.invariant.rest c.meet.ensures.rest;
  met = met_next c.args.ids.now.plan.slots c.args.cutter.now.bytes c.frames.cutter.bytes c.next.new.self.bytes (books c.args.calls.now) (books c.frames.calls) (books c.meet.new.calls) c.in-Ok-Some.frame c.in-Ok-Some.field-0 c.frames.invariant.met c.in-Ok-Some.field-0-is c.in-Ok-Some.ensures.stream c.meet.ensures.met;
}

pub returns-then-calls-clause-rest : goal.returns-then-calls-clause-rest
returns-then-calls-clause-rest g c = rests_then c.args.calls.now.seat c.frames.calls.seat c.meet.new.calls.seat c.frames.invariant.rest c.meet.ensures.rest

pub returns-then-calls-clause-met : goal.returns-then-calls-clause-met
returns-then-calls-clause-met g c = met_next c.args.ids.now.plan.slots c.args.cutter.now.bytes c.frames.cutter.bytes c.next.new.self.bytes (books c.args.calls.now) (books c.frames.calls) (books c.meet.new.calls) c.in-Ok-Some.frame c.in-Ok-Some.field-0 c.frames.invariant.met c.in-Ok-Some.field-0-is c.in-Ok-Some.ensures.stream c.meet.ensures.met

pub returns-in-Err-Frame-clause-stops : goal.returns-in-Err-Frame-clause-stops
returns-in-Err-Frame-clause-stops g c = let e = rw c.in-Err-Frame.field-0-is at c.in-Err-Frame.ensures.exact in stops_faulty (fault_of c.in-Err-Frame.field-0-0) c.frames.cutter.bytes c.next.new.self.bytes e.0 e.1
