-- The digits of bytes that are written piece by piece, and the words of a meta's fault.
use Rattle.std.proofs.Common.{◌≡◌, ℕ, ◌+◌, ◌<◌, List, [], ◌∷◌, ◌++◌, length, take, drop, sum, slice_index, ap, sym, ◌∙◌, append_assoc, append-nil, arith}
use Rattle.std.proofs.lemmas.List.{take-append-drop}
use Rattle.std.proofs.lemmas.List.Sums.{sum_by_more}
use Rattle.std.proofs.Math.Seq.{take-add}
use Rattle.hex.specs.Hex.{encode_lower, lower_digits}
use Rattle.sock_words.proofs.HexText.{encode_with-append, encode_lower-nil}
use Rattle.io_buf.specs.Buffer.{Buffer, piece_at}

-- the digits of some first bytes, and of those behind them
pub digits_split : (n : ℕ) (bytes : List ℕ) → encode_lower (take n bytes) ++ encode_lower (drop n bytes) ≡ encode_lower bytes
digits_split n bytes = sym (encode_with-append lower_digits (take n bytes) (drop n bytes)) ∙ ap encode_lower (take-append-drop n bytes)

-- one more block of a buffer
pub block_more : (b : Buffer) (place : ℕ) → place < length b.sizes →
    encode_lower (take (sum (take place b.sizes)) b.items) ++ encode_lower (piece_at b place) ≡ encode_lower (take (sum (take (place + 1) b.sizes)) b.items)
block_more b place below =
    let s = sum (take place b.sizes) in
    let n = slice_index b.sizes place in
    sym (encode_with-append lower_digits (take s b.items) (take n (drop s b.items)))
    ∙ ap encode_lower (sym (take-add s n b.items))
    ∙ ap (λ k. encode_lower (take k b.items)) (sym (sum_by_more (λ x. x) b.sizes place 0 below))

-- the blocks behind it
pub block_rest : (b : Buffer) (place : ℕ) → place < length b.sizes →
    encode_lower (take (sum (take place b.sizes)) b.items) ++ (encode_lower (piece_at b place) ++ encode_lower (drop (sum (take (place + 1) b.sizes)) b.items)) ≡ encode_lower b.items
block_rest b place below =
    sym (append_assoc (encode_lower (take (sum (take place b.sizes)) b.items)) (encode_lower (piece_at b place)) (encode_lower (drop (sum (take (place + 1) b.sizes)) b.items)))
    ∙ ap (λ l. l ++ encode_lower (drop (sum (take (place + 1) b.sizes)) b.items)) (block_more b place below)
    ∙ digits_split (sum (take (place + 1) b.sizes)) b.items

-- the digits of a chunk behind those that are written
pub digits_rest : (n : ℕ) (written rest bytes : List ℕ) → written ++ encode_lower rest ≡ encode_lower bytes → written ++ (encode_lower (take n rest) ++ encode_lower (drop n rest)) ≡ encode_lower bytes
digits_rest n written rest bytes e = ap (λ l. written ++ l) (digits_split n rest) ∙ e

-- nothing is left
pub digits_done : (written rest bytes : List ℕ) → length rest ≡ 0 → written ++ encode_lower rest ≡ encode_lower bytes → written ≡ encode_lower bytes
digits_done written [] bytes none e = sym (append-nil written) ∙ ap (λ l. written ++ l) (sym encode_lower-nil) ∙ e
digits_done written (b ∷ rest) bytes none e = absurd (omega arith)
