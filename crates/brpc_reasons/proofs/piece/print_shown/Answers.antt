use Rattle.std.proofs.Common.{◌++◌, length, take, map, codes, refl, append_assoc, Ok}
use Rattle.std.proofs.lemmas.Result.{err_from_is_err_and}
use Rattle.frame_print.proofs.SuccessiveTextWriting.{as_text, then_wrote, stopped_in, stopped_at}
use Rattle.brpc_reasons.specs.SentencePieces.{closing, shown_byte}
use Rattle.brpc_reasons.proofs.piece.print_shown.Goals as goal

pub returns-in_err-print_text : goal.returns-in_err-print_text
returns-in_err-print_text g c =
    let p = err_from_is_err_and c.from_residual.result c.from_residual.ensures.1 in
    let bytes = c.args.bytes.now in
    stopped_at _ _ (codes "\"") (map shown_byte (take 72 bytes) ++ closing (length bytes)) _ _ _ _ c.in_err-print_text.ensures refl p.1

pub returns-in_err-print_front : goal.returns-in_err-print_front
returns-in_err-print_front g c =
    let p = err_from_is_err_and c.from_residual-in_err-print_front.result c.from_residual-in_err-print_front.ensures.1 in
    let bytes = c.args.bytes.now in
    stopped_in _ _ _ (codes "\"") (map shown_byte (take 72 bytes)) (closing (length bytes)) _ _ _ _ c.in_ok-print_text.ensures c.in_err-print_front.ensures refl p.1

pub returns : goal.returns
returns g c =
    let bytes = c.args.bytes.now in
    as_text _ _ _ _ _ (then_wrote _ _ _ _ _ _ (then_wrote _ _ _ _ _ (Ok tt) c.in_ok-print_text.ensures c.in_ok-print_front.ensures) c.print_closing.ensures)
    (append_assoc (codes "\"") (map shown_byte (take 72 bytes)) (closing (length bytes)))
