use Rattle.std.proofs.Common.{take, sum, Ok}
use Rattle.hex.specs.Hex.{encode_lower}
use Rattle.frame_print.specs.TextWrittenToSink.{Writes}
use Rattle.frame_print.proofs.hexadecimal.print_blocks.Given as goal

abbrev pub invariant-loop-place : goal.invariant-loop-place
invariant-loop-place g l = Writes (g.K.Sink.state l.initial.out) (g.K.Sink.state l.out)
    (encode_lower (take (sum (take l.place l.buf.sizes)) l.buf.items)) (Ok tt)
