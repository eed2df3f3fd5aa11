use Rattle.std.proofs.Common.{◌≡◌, ◌++◌, ap, w32, to_z, of_z, rules}
use Rattle.std.proofs.lemmas.Result.{err_from_is_err_and}
use Rattle.frame_print.specs.FrameEnd.{numbers_text, bytes_text}
use Rattle.frame_print.specs.FrameLineView.{frame_viewed}
use Rattle.frame_print.proofs.SuccessiveTextWriting.{as_text, then_wrote, stopped_at}
use Rattle.frame_print.proofs.frame_text.print_end.Goals as goal

pub returns-in_err-print_numbers : goal.returns-in_err-print_numbers
returns-in_err-print_numbers g c =
    let p = err_from_is_err_and c.from_residual.result c.from_residual.ensures.1 in
    let m = c.args.frame.now.meta in
    let f = frame_viewed c.args.frame.now in
    let same : to_z w32 (of_z w32 m.compress_type) ≡ m.compress_type = search rules in
    stopped_at _ _ _ (bytes_text f.payload f.attachment) _ _ _ _ c.in_err-print_numbers.ensures
    (ap (λ z. numbers_text m.correlation_id z ++ bytes_text f.payload f.attachment) same) p.1

pub returns : goal.returns
returns g c =
    let m = c.args.frame.now.meta in
    let f = frame_viewed c.args.frame.now in
    let same : to_z w32 (of_z w32 m.compress_type) ≡ m.compress_type = search rules in
    as_text _ _ _ _ _ (then_wrote _ _ _ _ (bytes_text f.payload f.attachment) _ c.in_ok-print_numbers.ensures c.print_bodies.ensures)
    (ap (λ z. numbers_text m.correlation_id z ++ bytes_text f.payload f.attachment) same)
