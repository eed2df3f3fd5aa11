use Rattle.std.proofs.Common.{◌≡◌, ◌++◌, length, take, drop, ap, sym, ◌∙◌, append_assoc, Ok}
use Rattle.std.proofs.lemmas.Bool.{eqb-true}
use Rattle.std.proofs.lemmas.Result.{err_from_is_err_and}
use Rattle.hex.specs.Hex.{encode_lower}
use Rattle.frame_print.proofs.SuccessiveTextWriting.{then_wrote, stopped_in, as_text}
use Rattle.frame_print.proofs.Digits.{digits_rest, digits_done}
use Rattle.frame_print.proofs.hexadecimal.print_chunks.Goals as goal

pub returns-in_err-print_chunk : goal.returns-in_err-print_chunk
returns-in_err-print_chunk g c =
    let p = err_from_is_err_and c.from_residual.result c.from_residual.ensures.1 in
    let i = c.loop-rest.invariant in
    let n = c.min-count.result in
    stopped_in _ _ _ i.written _ (encode_lower (drop n c.loop-rest.rest.now)) _ _ _ _ i.wrote c.in_err-print_chunk.ensures (digits_rest n i.written c.loop-rest.rest.now c.args.bytes.now i.split) p.1

pub loop-rest-preserved : goal.loop-rest-preserved
loop-rest-preserved g c =
    let i = c.loop-rest.invariant in
    let n = c.min-count.result in
    record {
      written = i.written ++ encode_lower (take n c.loop-rest.rest.now);
      split = ap (λ l. (i.written ++ encode_lower (take n c.loop-rest.rest.now)) ++ encode_lower l) c.from_place-rest.ensures
          ∙ append_assoc i.written (encode_lower (take n c.loop-rest.rest.now)) (encode_lower (drop n c.loop-rest.rest.now))
          ∙ digits_rest n i.written c.loop-rest.rest.now c.args.bytes.now i.split;
      wrote = then_wrote _ _ _ i.written (encode_lower (take n c.loop-rest.rest.now)) (Ok tt) i.wrote c.in_ok-print_chunk.ensures;
    }

pub returns : goal.returns
returns g c =
    let i = c.loop-rest.invariant in
    let none : length c.loop-rest.rest.now ≡ 0 = eqb-true (length c.loop-rest.rest.now) 0 (sym c.is_empty.ensures ∙ c.loop-rest-test.false) in
    as_text _ _ i.written _ (Ok tt) i.wrote (digits_done i.written c.loop-rest.rest.now c.args.bytes.now none i.split)
