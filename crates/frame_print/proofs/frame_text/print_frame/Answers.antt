use Rattle.std.proofs.Common.{◌++◌, codes, Ok}
use Rattle.std.proofs.lemmas.Result.{err_from_is_err_and}
use Rattle.frame_print.specs.FrameLineView.{frame_viewed}
use Rattle.frame_print.specs.FrameEnd.{end_text}
use Rattle.frame_print.proofs.SuccessiveTextWriting.{as_text, then_wrote, stopped_in, stopped_at}
use Rattle.frame_print.proofs.FrameLines.{request_part, response_part, whole_line, from_first, from_third}
use Rattle.frame_print.proofs.frame_text.print_frame.Goals as goal

pub returns-in_err-print_pieces : goal.returns-in_err-print_pieces
returns-in_err-print_pieces g c =
    let p = err_from_is_err_and c.from_residual.result c.from_residual.ensures.1 in
    let f = frame_viewed c.args.frame.now in
    stopped_at _ _ (codes "frame") (request_part f ++ (response_part f ++ end_text f)) _ _ _ _ c.in_err-print_pieces.ensures (from_first f) p.1

pub returns-in_err-print_request : goal.returns-in_err-print_request
returns-in_err-print_request g c =
    let p = err_from_is_err_and c.from_residual-in_err-print_request.result c.from_residual-in_err-print_request.ensures.1 in
    let f = frame_viewed c.args.frame.now in
    stopped_in _ _ _ (codes "frame") (request_part f) (response_part f ++ end_text f) _ _ _ _ c.in_ok-print_pieces.ensures c.in_err-print_request.ensures (from_first f) p.1

pub returns-in_err-print_response : goal.returns-in_err-print_response
returns-in_err-print_response g c =
    let p = err_from_is_err_and c.from_residual-in_err-print_response.result c.from_residual-in_err-print_response.ensures.1 in
    let f = frame_viewed c.args.frame.now in
    stopped_in _ _ _ (codes "frame" ++ request_part f) (response_part f) (end_text f) _ _ _ _
    (then_wrote _ _ _ (codes "frame") (request_part f) (Ok tt) c.in_ok-print_pieces.ensures c.in_ok-print_request.ensures) c.in_err-print_response.ensures (from_third f) p.1

pub returns : goal.returns
returns g c =
    let f = frame_viewed c.args.frame.now in
    as_text _ _ (codes "frame" ++ request_part f ++ response_part f ++ end_text f) _ _
    (then_wrote _ _ _ (codes "frame" ++ request_part f ++ response_part f) (end_text f) _
    (then_wrote _ _ _ (codes "frame" ++ request_part f) (response_part f) (Ok tt) (then_wrote _ _ _ (codes "frame") (request_part f) (Ok tt) c.in_ok-print_pieces.ensures c.in_ok-print_request.ensures) c.in_ok-print_response.ensures)
    c.print_end.ensures) (whole_line f)
