use Rattle.std.proofs.Common.{rules, get_or, sym}
use Rattle.std.proofs.Output.{has_written_append, has_written_of_eq}
use Rattle.sock_words.proofs.HexText.{encode_lower-nil, byte_text, encode_more}
use Rattle.sock_words.proofs.hex_digits.HexDigitsDisplay.fmt.Goals as goal

pub loop-byte-init : goal.loop-byte-init
loop-byte-init g c = λ plain. has_written_of_eq _ _ _ _ _ (sym encode_lower-nil) (search rules)

pub loop-byte-preserved : goal.loop-byte-preserved
loop-byte-preserved g c = λ plain.
    has_written_of_eq _ _ _ _ _ (encode_more c.args.self.now.0.now c.loop-byte.byte-index c.loop-byte-test.true)
    (has_written_append _ _ _ _ _ _ (c.loop-byte.invariant plain) (has_written_of_eq _ _ _ _ _ (byte_text (get_or c.args.self.now.0.now c.loop-byte.byte-index 0) (search rules)) (search rules)))
