use Rattle.std.proofs.Common.{[]}
use Rattle.prpc_frame.proofs.StreamCuts.{cut_none}
use Rattle.prpc_frame.proofs.StreamCuts.{cut_next}
use Rattle.frame_print.proofs.ReadFeedCutSteps.{judged_fault}
use Rattle.frame_print.proofs.print.judge_whole.Goals as goal

pub loop-frame-init : goal.loop-frame-init
loop-frame-init c = record { frames = []; cut = cut_none _ }

pub loop-frame-preserved : goal.loop-frame-preserved
loop-frame-preserved c = record {
  frames = _;
  cut = cut_next _ _ _ c.loop-frame.invariant.frames c.in-Ok-Some.frame c.in-Ok-Some.field-0 c.loop-frame.invariant.cut c.in-Ok-Some.field-0-is c.in-Ok-Some.ensures.stream;
}

pub returns-in-Err-Frame : goal.returns-in-Err-Frame
returns-in-Err-Frame c =
    judged_fault _ _ _ c.loop-frame.invariant.frames c.in-Err-Frame.field-0 c.in-Err-Frame.field-0-0 c.loop-frame.invariant.cut c.in-Err-Frame.field-0-is c.in-Err-Frame.ensures.exact
