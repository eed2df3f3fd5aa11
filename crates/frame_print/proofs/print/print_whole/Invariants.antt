use Rattle.std.proofs.Common.{◌≡◌, false, length}
use Rattle.frame_print.specs.Cutting.{CutGathered}
use Rattle.frame_print.proofs.print.print_whole.Given as goal

abbrev pub invariant-loop-frame : goal.invariant-loop-frame
invariant-loop-frame g l = record {
  gathered : CutGathered l.initial.cutter.bytes (g.K.Sink.state l.initial.out).contents l.cutter.bytes (g.K.Sink.state l.out).contents l.lines.bytes;
  untold : l.cutter.told ≡ false;
  kept : (g.K.Sink.state l.out).faults ≡ (g.K.Sink.state l.initial.out).faults;
}

abbrev pub decreases-loop-frame : goal.decreases-loop-frame
decreases-loop-frame g l = length l.cutter.bytes
