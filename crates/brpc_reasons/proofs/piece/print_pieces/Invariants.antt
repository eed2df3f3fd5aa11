use Rattle.std.proofs.Common.{take, Ok}
use Rattle.frame_print.specs.TextWrittenToSink.{Writes}
use Rattle.brpc_reasons.specs.SentencePieces.{pieces_text}
use Rattle.brpc_reasons.proofs.piece.print_pieces.Given as goal

abbrev pub invariant-loop-piece : goal.invariant-loop-piece
invariant-loop-piece g l = Writes (g.K.Sink.state l.initial.out) (g.K.Sink.state l.out)
    (pieces_text (take l.piece-index l.pieces)) (Ok tt)
