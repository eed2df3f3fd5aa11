use Rattle.std.proofs.Common.{◌+◌, take, drop}
use Rattle.std.proofs.lemmas.Result.{err_from_is_err_and}
use Rattle.brpc_reasons.specs.SentencePieces.{pieces_text}
use Rattle.frame_print.proofs.SuccessiveTextWriting.{stopped_in}
use Rattle.brpc_reasons.proofs.PiecesInRow.{pieces_rest}
use Rattle.brpc_reasons.proofs.piece.print_pieces.Goals as goal

pub returns-in_err-print_piece : goal.returns-in_err-print_piece
returns-in_err-print_piece g c =
    let p = err_from_is_err_and c.from_residual.result c.from_residual.ensures.1 in
    let ps = c.args.pieces.now in
    let i = c.loop-piece.piece-index in
    stopped_in _ _ _ (pieces_text (take i ps)) _ (pieces_text (drop (i + 1) ps)) _ _ _ _ c.loop-piece.invariant c.in_err-print_piece.ensures
    (pieces_rest ps i _ c.loop-piece-test.true) p.1
