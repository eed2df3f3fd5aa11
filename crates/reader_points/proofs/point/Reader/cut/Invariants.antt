use Rattle.std.proofs.Common.{List, length}
use Rattle.std.specs.List.{AllByRecursion}
use Rattle.brpc_model.specs.Frame.{Frame}
use Rattle.prpc_frame.specs.StreamCuts.{Cut}
use Rattle.reader_points.proofs.FramesInHand.{IsSkipped, IsLeft}
use Rattle.reader_points.proofs.point.Reader.cut.Given as goal

-- the frames so far were no responses
abbrev pub invariant-loop-frame : goal.invariant-loop-frame
invariant-loop-frame l = record { frames : List Frame; cut : Cut l.initial.cutter.bytes frames l.cutter.bytes; left : IsLeft l.initial.cutter.bytes l.cutter.bytes; none : AllByRecursion (IsSkipped l.ids) frames }

abbrev pub decreases-loop-frame : goal.decreases-loop-frame
decreases-loop-frame l = length l.cutter.bytes
