use Rattle.std.proofs.Common.{[]}
use Rattle.prpc_frame.proofs.StreamCuts.{cut_none, cut_next}
use Rattle.reader_points.proofs.FramesInHand.{left_all}
use Rattle.reader_points.proofs.CutFrames.{more_skipped, left_cut, goes_locked, goes_more, goes_faulty}
use Rattle.reader_points.proofs.point.Reader.cut.Goals as goal

pub loop-frame-init : goal.loop-frame-init
loop-frame-init c = record { frames = []; cut = cut_none _; left = left_all _; none = tt }

pub loop-frame-preserved : goal.loop-frame-preserved
loop-frame-preserved c = record {
  frames = _;
  cut = cut_next _ _ _ c.loop-frame.invariant.frames c.in-Ok-Some.frame c.in-Ok-Some.field-0 c.loop-frame.invariant.cut c.in-Ok-Some.field-0-is c.in-Ok-Some.ensures.stream;
  left = left_cut _ _ _ _ _ c.loop-frame.invariant.left (rw c.in-Ok-Some.field-0-is at c.in-Ok-Some.ensures.exact);
  none = more_skipped _ c.loop-frame.invariant.frames _ c.loop-frame.invariant.none c.in-None.ensures.none;
}

pub returns-in-Some : goal.returns-in-Some
returns-in-Some c =
    goes_locked c.args.self c.args.ids _ c.loop-frame.invariant.frames c.loop-frame.invariant.none _ c.in-Ok-Some.frame c.in-Some.locker
    (cut_next _ _ _ c.loop-frame.invariant.frames c.in-Ok-Some.frame c.in-Ok-Some.field-0 c.loop-frame.invariant.cut c.in-Ok-Some.field-0-is c.in-Ok-Some.ensures.stream)
    (left_cut _ _ _ _ _ c.loop-frame.invariant.left (rw c.in-Ok-Some.field-0-is at c.in-Ok-Some.ensures.exact))
    c.in-Some.ensures.some.0 c.in-Some.ensures.some.1

pub returns-in-Ok-None : goal.returns-in-Ok-None
returns-in-Ok-None c =
    goes_more c.args.self c.args.ids _ c.loop-frame.invariant.frames c.loop-frame.invariant.none _ _ c.takes_more.result c.loop-frame.invariant.cut c.loop-frame.invariant.left
    (rw c.in-Ok-None.field-0-is at c.in-Ok-None.ensures.exact).0 (rw c.in-Ok-None.field-0-is at c.in-Ok-None.ensures.exact).1 c.takes_more.ensures.below c.takes_more.ensures.at_limit

pub returns-in-Err-Frame : goal.returns-in-Err-Frame
returns-in-Err-Frame c =
    goes_faulty c.args.self c.args.ids _ c.loop-frame.invariant.frames c.loop-frame.invariant.none _ _ c.in-Err-Frame.field-0-0 c.fails.result c.loop-frame.invariant.cut c.loop-frame.invariant.left
    (rw c.in-Err-Frame.field-0-is at c.in-Err-Frame.ensures.exact).0 (rw c.in-Err-Frame.field-0-is at c.in-Err-Frame.ensures.exact).1 c.fails.ensures
