use Rattle.std.proofs.Common.{◌+◌, ◌<◌, [], ◌++◌, length, take, drop, sum, ap, sym, ◌∙◌, arith, Ok}
use Rattle.std.proofs.lemmas.Result.{err_from_is_err_and}
use Rattle.hex.specs.Hex.{encode_lower}
use Rattle.sock_words.proofs.HexText.{encode_lower-nil}
use Rattle.frame_print.proofs.SuccessiveTextWriting.{wrote_none, then_wrote, stopped_in, as_text}
use Rattle.frame_print.proofs.Digits.{block_more, block_rest}
use Rattle.frame_print.proofs.hexadecimal.print_blocks.Goals as goal

pub loop-place-init : goal.loop-place-init
loop-place-init g c = as_text _ _ [] _ (Ok tt) (wrote_none _) (sym encode_lower-nil)

pub returns-in_err-print_digits : goal.returns-in_err-print_digits
returns-in_err-print_digits g c =
    let p = err_from_is_err_and c.from_residual.result c.from_residual.ensures.1 in
    let b = c.args.buf.now in
    let place = c.loop-place.place in
    let below : place < length b.sizes = omega (arith, c.loop-place-test.true, c.refs-place-end.ensures.value) in
    stopped_in _ _ _ (encode_lower (take (sum (take place b.sizes)) b.items)) _ (encode_lower (drop (sum (take (place + 1) b.sizes)) b.items)) _ _ _ _ c.loop-place.invariant c.in_err-print_digits.ensures
    (ap (λ l. encode_lower (take (sum (take place b.sizes)) b.items) ++ (encode_lower l ++ encode_lower (drop (sum (take (place + 1) b.sizes)) b.items))) c.piece.ensures.value ∙ block_rest b place below) p.1

pub loop-place-preserved : goal.loop-place-preserved
loop-place-preserved g c =
    let b = c.args.buf.now in
    let place = c.loop-place.place in
    let below : place < length b.sizes = omega (arith, c.loop-place-test.true, c.refs-place-end.ensures.value) in
    as_text _ _ _ _ (Ok tt) (then_wrote _ _ _ (encode_lower (take (sum (take place b.sizes)) b.items)) _ (Ok tt) c.loop-place.invariant c.in_ok-print_digits.ensures)
    (ap (λ l. encode_lower (take (sum (take place b.sizes)) b.items) ++ encode_lower l) c.piece.ensures.value ∙ block_more b place below)
