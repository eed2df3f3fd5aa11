use Rattle.std.proofs.Common.{List, length}
use Rattle.brpc_model.specs.Frame.{Frame}
use Rattle.prpc_frame.specs.StreamCuts.{Cut}
use Rattle.frame_print.proofs.print.judge_whole.Given as goal

abbrev pub invariant-loop-frame : goal.invariant-loop-frame
invariant-loop-frame l = record { frames : List Frame; cut : Cut l.initial.cutter.bytes frames l.cutter.bytes }

abbrev pub decreases-loop-frame : goal.decreases-loop-frame
decreases-loop-frame l = length l.cutter.bytes
