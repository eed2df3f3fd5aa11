use Rattle.std.proofs.Common.{◌≡◌, ℕ, ◌-◌, ◌≤◌, List, [], false, length}
use Rattle.std.specs.Io.KnownBytes.{Consumes}
use Rattle.brpc_model.specs.Frame.{NoneYet, judged}
use Rattle.frame_print.specs.Cutting.{CutPrinted}
use Rattle.frame_print.proofs.print.print_each.Given as goal

abbrev pub invariant-loop-read : goal.invariant-loop-read
invariant-loop-read g l = record {
  whole : List ℕ;
  came : Consumes (g.S.Source.state l.initial.source).left (g.S.Source.state l.source).left whole;
  counted : l.read ≡ length whole;
  few : l.read ≤ 268435456;
  printed : CutPrinted whole (g.K.Sink.state l.initial.out).contents l.cutter.bytes (g.K.Sink.state l.out).contents;
  waiting : judged l.cutter.bytes ≡ NoneYet;
  untold : l.cutter.told ≡ false;
  gathered : l.lines.bytes ≡ [];
  reads : (g.S.Source.state l.source).faults ≡ (g.S.Source.state l.initial.source).faults;
  writes : (g.K.Sink.state l.out).faults ≡ (g.K.Sink.state l.initial.out).faults;
}

abbrev pub decreases-loop-read : goal.decreases-loop-read
decreases-loop-read g l = 268435456 - l.read
