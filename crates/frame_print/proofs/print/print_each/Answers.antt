use Rattle.std.proofs.Common.{◌≡◌, ℕ, ◌+◌, ◌-◌, ◌≤◌, ◌<◌, List, [], ◌++◌, length, take, Option, Result, refl, sym, ◌∙◌, subst, arith, rules}
use Rattle.std.specs.Io.KnownBytes.{Consumes}
use Rattle.brpc_model.specs.Frame.{NoneYet, judged}
use Rattle.prpc_frame.specs.FrameMeaning.{fault_of}
use Rattle.frame_print.specs.Cutting.{CutPrinted}
use Rattle.frame_print.specs.PrintedFrames.{Edges, EndsAs, PrintsFrames}
use Rattle.frame_print.specs.declared.print.StreamEnd.{StreamEnd}
use Rattle.frame_print.specs.declared.print.PrintFault.{PrintFault}
use Rattle.frame_print.proofs.PrintedFrameCuts.{printed_none, printed_more, fault_meant}
use Rattle.frame_print.proofs.PrintingEnds.{ends_source, ends_at_rest, ends_long, ends_unfed, ends_in_cut, ends_fault}
use Rattle.frame_print.proofs.CutterHoldingSize.{held_untold, fed_untold}
use Rattle.frame_print.proofs.ReadFeedCutSteps.{consumes_none, consumes_append, consumes_kept, consumes_end, few_left, one_read, counted_more, fed_printed, cut_waits, cut_faulty}
use Rattle.frame_print.proofs.print.print_each.Goals as goal

-- it ended behind a piece more
ended_behind : (e : Edges) (mid : Option (List ℕ)) (whole piece : List ℕ) (r : Result StreamEnd PrintFault) → Consumes e.source.before mid whole → Consumes mid e.source.now piece → e.source.faults_now ≡ e.source.faults →
    EndsAs e (whole ++ piece) r → PrintsFrames e r
ended_behind e mid whole piece r came more reads ended = record { bytes = whole ++ piece; came = consumes_append _ _ _ whole piece came more; ended = ended; reads = λ other. reads }

pub loop-read-init : goal.loop-read-init
loop-read-init g c =
    let P : List ℕ → Type 0 = λ l. CutPrinted [] (g.K.Sink.state c.args.out.now).contents l (g.K.Sink.state c.args.out.now).contents in
    let Q : List ℕ → Type 0 = λ l. judged l ≡ NoneYet in
    record {
      whole = [];
      came = consumes_none (g.S.Source.state c.args.source.now).left;
      counted = refl;
      few = omega arith;
      printed = subst P (sym c.requires.held) (printed_none [] (g.K.Sink.state c.args.out.now).contents);
      waiting = subst Q (sym c.requires.held) refl;
      untold = c.requires.untold;
      gathered = c.requires.gathered;
      reads = refl;
      writes = refl;
    }

pub returns-in-Err : goal.returns-in-Err
returns-in-Err g c =
    let i = c.loop-read.invariant in
    let few : length i.whole ≤ 268435456 = omega (arith, i.counted, i.few) in
    record {
      bytes = i.whole;
      came = consumes_kept _ _ _ i.whole i.came c.in-Err.ensures.bytes;
      ended = ends_source _ i.whole c.loop-read.cutter.bytes few i.printed i.waiting _ i.reads c.in-Err.ensures.cause.failed;
      reads = λ other. absurd (other refl);
    }

pub returns-then-count-eq0 : goal.returns-then-count-eq0
returns-then-count-eq0 g c =
    let i = c.loop-read.invariant in
    let few : length i.whole ≤ 268435456 = omega (arith, i.counted, i.few) in
    let room : 0 < length c.read.new.room = search rules in
    record {
      bytes = i.whole;
      came = consumes_end _ _ _ i.whole c.read.new.room c.in-Ok.count i.came c.in-Ok.ensures.bytes.0 c.if-count-eq0.true;
      ended = ends_at_rest _ _ _ _ _ i.whole c.loop-read.cutter.bytes c.held.result _ few (c.in-Ok.ensures.bytes.1 c.if-count-eq0.true room) i.printed i.waiting (c.held.ensures ∙ held_untold c.loop-read.cutter i.untold) i.writes c.end_in_rest.ensures;
      reads = λ other. c.in-Ok.ensures.cause.kept ∙ i.reads;
    }

pub returns-then-read-eq-FRAMES_LIMIT : goal.returns-then-read-eq-FRAMES_LIMIT
returns-then-read-eq-FRAMES_LIMIT g c =
    let i = c.loop-read.invariant in
    let piece = take c.in-Ok.count c.read.new.room in
    let all : length i.whole ≡ 268435456 = sym i.counted ∙ c.if-read-eq-FRAMES_LIMIT.true in
    let one : length piece ≡ 1 =
    one_read c.read.new.room c.loop-read.room c.loop-read.read c.in-Ok.count c.min.result c.max-most.result c.if-read-eq-FRAMES_LIMIT.true c.min.ensures c.max-most.ensures c.read.auto.room c.in-Ok.ensures.bound.0 c.if-count-eq0.false
    in
    ended_behind _ _ i.whole _ _ i.came c.in-Ok.ensures.bytes.0 (c.in-Ok.ensures.cause.kept ∙ i.reads) (ends_long _ i.whole c.loop-read.cutter.bytes piece all one i.printed i.waiting)

pub returns-then-is_err : goal.returns-then-is_err
returns-then-is_err g c =
    let i = c.loop-read.invariant in
    let few = few_left i.whole c.read.new.room c.loop-read.room c.loop-read.read c.in-Ok.count c.min.result c.max-most.result i.counted i.few c.if-read-eq-FRAMES_LIMIT.false c.min.ensures c.max-most.ensures c.read.auto.room in
    ended_behind _ _ i.whole _ _ i.came c.in-Ok.ensures.bytes.0 (c.in-Ok.ensures.cause.kept ∙ i.reads) (ends_unfed _ i.whole c.loop-read.cutter.bytes _ few i.printed)

pub returns-in-Err-print_whole : goal.returns-in-Err-print_whole
returns-in-Err-print_whole g c =
    let i = c.loop-read.invariant in
    let few = few_left i.whole c.read.new.room c.loop-read.room c.loop-read.read c.in-Ok.count c.min.result c.max-most.result i.counted i.few c.if-read-eq-FRAMES_LIMIT.false c.min.ensures c.max-most.ensures c.read.auto.room in
    let fed = fed_printed c.feed.result i.whole c.loop-read.cutter.bytes _ c.feed.new.self.bytes _ _ i.printed i.waiting (sym c.is_err.ensures.value ∙ c.if-is_err.false) c.feed.ensures.ok c.feed.ensures.stream in
    ended_behind _ _ i.whole _ _ i.came c.in-Ok.ensures.bytes.0 (c.in-Ok.ensures.cause.kept ∙ i.reads)
    (ends_in_cut _ _ _ _ _ _ c.feed.new.self.bytes c.print_whole.new.cutter.bytes c.end_stopped.new.cutter.bytes c.in-Err-print_whole.stopped c.end_stopped.result few fed i.writes c.in-Err-print_whole.ensures.cuts c.end_stopped.ensures)

pub print_whole-requires-clause-untold : goal.print_whole-requires-clause-untold
print_whole-requires-clause-untold g c = fed_untold c.feed.result c.loop-read.cutter c.feed.new.self _ (sym c.is_err.ensures.value ∙ c.if-is_err.false) c.loop-read.invariant.untold c.feed.ensures.kept

pub overflow_sub-read-in-Some : goal.overflow_sub-read-in-Some
overflow_sub-read-in-Some g c =
    let i = c.loop-read.invariant in
    let piece = take c.in-Ok.count c.read.new.room in
    let fed = fed_printed c.feed.result i.whole c.loop-read.cutter.bytes piece c.feed.new.self.bytes _ _ i.printed i.waiting (sym c.is_err.ensures.value ∙ c.if-is_err.false) c.feed.ensures.ok c.feed.ensures.stream in
    let cut = cut_faulty c.feed.new.self.bytes c.print_whole.new.cutter.bytes _ _ c.in-Some.met c.in-Ok-print_whole.whole c.in-Some.is c.in-Ok-print_whole.ensures.cuts in
    let printed = printed_more (i.whole ++ piece) c.feed.new.self.bytes c.print_whole.new.cutter.bytes _ _ _ fed cut.0 in
    let counted : c.loop-read.read + c.in-Ok.count ≡ length (i.whole ++ piece) = counted_more i.whole c.read.new.room c.loop-read.read c.in-Ok.count i.counted c.in-Ok.ensures.bound.0 in
    omega (arith, counted, printed.cut.sized, cut.3)

pub returns-in-Some : goal.returns-in-Some
returns-in-Some g c =
    let i = c.loop-read.invariant in
    let piece = take c.in-Ok.count c.read.new.room in
    let few = few_left i.whole c.read.new.room c.loop-read.room c.loop-read.read c.in-Ok.count c.min.result c.max-most.result i.counted i.few c.if-read-eq-FRAMES_LIMIT.false c.min.ensures c.max-most.ensures c.read.auto.room in
    let fed = fed_printed c.feed.result i.whole c.loop-read.cutter.bytes piece c.feed.new.self.bytes _ _ i.printed i.waiting (sym c.is_err.ensures.value ∙ c.if-is_err.false) c.feed.ensures.ok c.feed.ensures.stream in
    let cut = cut_faulty c.feed.new.self.bytes c.print_whole.new.cutter.bytes _ _ c.in-Some.met c.in-Ok-print_whole.whole c.in-Some.is c.in-Ok-print_whole.ensures.cuts in
    let printed = printed_more (i.whole ++ piece) c.feed.new.self.bytes c.print_whole.new.cutter.bytes _ _ _ fed cut.0 in
    let counted : c.loop-read.read + c.in-Ok.count ≡ length (i.whole ++ piece) = counted_more i.whole c.read.new.room c.loop-read.read c.in-Ok.count i.counted c.in-Ok.ensures.bound.0 in
    let meant = fault_meant (fault_of c.in-Some.met.fault) (judged c.print_whole.new.cutter.bytes) cut.1 in
    let start : (c.loop-read.read + c.in-Ok.count) - c.in-Some.met.len ≡ length (i.whole ++ piece) - length c.print_whole.new.cutter.bytes = omega (arith, counted, cut.3) in
    ended_behind _ _ i.whole _ _ i.came c.in-Ok.ensures.bytes.0 (c.in-Ok.ensures.cause.kept ∙ i.reads)
    (ends_fault _ _ _ _ _ (i.whole ++ piece) c.print_whole.new.cutter.bytes _ meant.0 c.print_fault.result few printed meant.2 start (cut.2 ∙ i.writes) (c.print_fault.ensures meant.0 meant.1))

pub loop-read-preserved : goal.loop-read-preserved
loop-read-preserved g c =
    let i = c.loop-read.invariant in
    let few = few_left i.whole c.read.new.room c.loop-read.room c.loop-read.read c.in-Ok.count c.min.result c.max-most.result i.counted i.few c.if-read-eq-FRAMES_LIMIT.false c.min.ensures c.max-most.ensures c.read.auto.room in
    let fed = fed_printed c.feed.result i.whole c.loop-read.cutter.bytes _ c.feed.new.self.bytes _ _ i.printed i.waiting (sym c.is_err.ensures.value ∙ c.if-is_err.false) c.feed.ensures.ok c.feed.ensures.stream in
    let cut = cut_waits c.feed.new.self.bytes c.print_whole.new.cutter.bytes _ _ c.in-Ok-print_whole.whole c.in_default.is c.in-Ok-print_whole.ensures.cuts in
    let counted = counted_more i.whole c.read.new.room c.loop-read.read c.in-Ok.count i.counted c.in-Ok.ensures.bound.0 in
    record {
      whole = i.whole ++ take c.in-Ok.count c.read.new.room;
      came = consumes_append _ _ _ i.whole _ i.came c.in-Ok.ensures.bytes.0;
      counted = counted;
      few = omega (arith, counted, few);
      printed = printed_more _ c.feed.new.self.bytes c.print_whole.new.cutter.bytes _ _ _ fed cut.0;
      waiting = cut.1;
      untold = c.in-Ok-print_whole.ensures.untold c.in_default.is;
      gathered = c.in-Ok-print_whole.ensures.none;
      reads = c.in-Ok.ensures.cause.kept ∙ i.reads;
      writes = cut.2 ∙ i.writes;
    }
