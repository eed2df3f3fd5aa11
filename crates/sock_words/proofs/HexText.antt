-- Bytes in hexadecimal, as a loop over them writes them.
use Rattle.std.proofs.Common.{◌≡◌, ℕ, zero, suc, ◌+◌, ◌/◌, ◌%◌, ◌^◌, ◌-◌, ◌<◌, ◌==◌, Bool, true, false, ◌&&◌, inl, inr, List, [], ◌∷◌, ◌++◌, length, take, slice_index, get_or, refl, sym, ap, ◌∙◌, arith}
use Rattle.std.proofs.lemmas.Bool.{and_parts, cases_lt, eqb-true}
use Rattle.std.proofs.lemmas.Fmt.{hex_byte}
use Rattle.std.proofs.lemmas.List.{take_more}
use Rattle.std.specs.Fmt.{digits, digit_glyph, padded_integral, format_spec}
use Rattle.hex.specs.Hex.{encode_with, encode_lower, lower_digits}

-- one list of bytes behind another
pub encode_with-append : (t xs ys : List ℕ) → encode_with t (xs ++ ys) ≡ encode_with t xs ++ encode_with t ys
unfolding encode_with
encode_with-append t [] ys = refl
encode_with-append t (x ∷ xs) ys = ap (λ rest. slice_index t (x / 16) ∷ slice_index t (x % 16) ∷ rest) (encode_with-append t xs ys)

-- no bytes
pub encode_lower-nil : encode_lower [] ≡ []
unfolding encode_with
encode_lower-nil = refl

-- the test of the first n digits of the table, which computes
abbrev digits_agree : ℕ → Bool
digits_agree zero = true
digits_agree (suc n) = (digit_glyph false n == slice_index lower_digits n) && digits_agree n

digits_agree-at : (n k : ℕ) → digits_agree n ≡ true → k < n → digit_glyph false k ≡ slice_index lower_digits k
digits_agree-at zero k agree below = absurd (omega arith)
digits_agree-at (suc n) k agree below =
    let parts = and_parts (digit_glyph false n == slice_index lower_digits n) (digits_agree n) agree in
    elim (cases_lt k n) [
      | inl under ↦ digits_agree-at n k parts.1 under
      | inr top ↦
          let e : k ≡ n = omega arith in
          rw e (eqb-true (digit_glyph false n) (slice_index lower_digits n) parts.0)
    ]

-- a digit
digit_is : (k : ℕ) → k < 16 → digit_glyph false k ≡ slice_index lower_digits k
digit_is k below = digits_agree-at 16 k refl below

-- what `{:02x}` writes of a byte
pub byte_text : (b : ℕ) → b < 256 → padded_integral (format_spec 32 0 4 2 (2 ^ 64 - 1)) false [] (digits 16 false b) ≡ encode_lower (b ∷ [])
unfolding encode_with
byte_text b below =
    hex_byte false b below
    ∙ ap (λ d. d ∷ digit_glyph false (b % 16) ∷ []) (digit_is (b / 16) (omega arith))
    ∙ ap (λ d. slice_index lower_digits (b / 16) ∷ d ∷ []) (digit_is (b % 16) (omega arith))

-- one more byte
pub encode_more : (xs : List ℕ) (i : ℕ) → i < length xs → encode_lower (take i xs) ++ encode_lower (get_or xs i 0 ∷ []) ≡ encode_lower (take (i + 1) xs)
encode_more xs i below = sym (ap encode_lower (take_more xs i 0 below) ∙ encode_with-append lower_digits (take i xs) (get_or xs i 0 ∷ []))
