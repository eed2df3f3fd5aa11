use Rattle.std.proofs.Common.{◌≡◌, ℕ, ◌++◌, List, length, Ok}
use Rattle.hex.specs.Hex.{encode_lower}
use Rattle.frame_print.specs.TextWrittenToSink.{Writes}
use Rattle.frame_print.proofs.hexadecimal.print_chunks.Given as goal

abbrev pub invariant-loop-rest : goal.invariant-loop-rest
invariant-loop-rest g l = record {
  written : List ℕ;
  split : written ++ encode_lower l.rest ≡ encode_lower l.bytes;
  wrote : Writes (g.K.Sink.state l.initial.out) (g.K.Sink.state l.out) written (Ok tt);
}

abbrev pub decreases-loop-rest : goal.decreases-loop-rest
decreases-loop-rest g l = length l.rest
