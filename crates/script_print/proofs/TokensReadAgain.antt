-- Numbers, names and hexadecimal: what was read is spelled so that it is read again as the same.
use Rattle.std.proofs.Common.{◌≡◌, ℕ, suc, ◌/◌, ◌%◌, ◌^◌, ◌<◌, ◌≤◌, Bool, true, false, cond, ◌&&◌, ◌||◌, not, nat_le, nat_eq, ◌==◌, List, [], ◌∷◌, length, slice_index, decimal, bytes_eq, codes, IfOk, Result, Ok, Err, refl, ap, ◌∙◌, arith, le-leb, leb-true, ne_eqb, inl, inr}
use Rattle.std.specs.List.{list_all}
use Rattle.std.specs.Char.{is_ascii_digit}
use Rattle.std.specs.Str.Parse.{AllDigits, digits_value}
use Rattle.std.proofs.lemmas.Str.Parse.{digit_from_value}
use Rattle.std.proofs.lemmas.Fmt.{decimal_is_IsNumeral, first_decimal, decimal_digit}
use Rattle.std.proofs.lemmas.Bool.{and_parts, and_from, or_left, or_right, and_right, cond-true, cond-false, agree_below_at, cases_eq, not_from_false}
use Rattle.hex.specs.Hex.{IsBytes, decode_of, encode_lower, encode_with, lower_digits}
use Rattle.hex.specs.declared.error.FromHexError.{FromHexError}
use Rattle.hex.proofs.HexLemmas.{decode_of-ok, decode_of-encode_lower}
use Rattle.sock_words.specs.PrintedWords.{hex_text}
use Rattle.brpc_model.specs.Text.{has_bytes, is_numeral, number_in, is_name_byte, spelled_in, pairs_in, hex_in, sized}
use Rattle.script_print.proofs.Spaced.{is_word, is_word_byte, all_implied}
use Rattle.script_print.proofs.Gives.{of_test, of_either}

-- ## Numbers

digits_all : (ds : List ℕ) → AllDigits 10 ds → list_all is_ascii_digit ds ≡ true
digits_all [] h = refl
digits_all (d ∷ ds) h =
    let r = digit_from_value d h.0 in
    and_from (is_ascii_digit d) (list_all is_ascii_digit ds) (and_from (nat_le 48 d) (nat_le d 57) (le-leb 48 d r.0) (le-leb d 57 r.1)) (digits_all ds h.1)

has_bytes_of : (bs : List ℕ) → 0 < length bs → has_bytes bs ≡ true
has_bytes_of [] h = absurd (omega arith)
has_bytes_of (b ∷ bs) h = refl

pub decimal_digits : (n : ℕ) → n < 2 ^ 64 → list_all is_ascii_digit (decimal n) ≡ true
decimal_digits n h = digits_all (decimal n) (decimal_is_IsNumeral n h).0.1

digit_word : (b : ℕ) → is_ascii_digit b ≡ true → is_word_byte b ≡ true
digit_word b h =
    let parts = and_parts (nat_le 48 b) (nat_le b 57) h in
    let low = leb-true 48 b parts.0 in
    let high = leb-true b 57 parts.1 in
    and_from (nat_le 33 b) (nat_le b 126) (le-leb 33 b (omega arith)) (le-leb b 126 (omega arith))

pub decimal_word : (n : ℕ) → n < 2 ^ 64 → is_word (decimal n) ≡ true
decimal_word n h =
    and_from (has_bytes (decimal n)) (list_all is_word_byte (decimal n)) (has_bytes_of (decimal n) (decimal_is_IsNumeral n h).0.0)
    (all_implied is_ascii_digit is_word_byte digit_word (decimal n) (decimal_digits n h))

no_leading_zero : (n : ℕ) → n < 2 ^ 64 → ((length (decimal n) == 1) || not (slice_index (decimal n) 0 == 48)) ≡ true
no_leading_zero n h = elim (cases_eq n 0) [
  | inl none ↦ or_left (length (decimal n) == 1) (not (slice_index (decimal n) 0 == 48)) (ap (λ m. length (decimal m) == 1) none ∙ ap (λ ds. length ds == 1) (decimal_digit 0 (omega arith)))
  | inr some ↦
      let high = first_decimal n (omega arith) h in
      or_right (length (decimal n) == 1) (not (slice_index (decimal n) 0 == 48)) (not_from_false (slice_index (decimal n) 0 == 48) (ne_eqb (slice_index (decimal n) 0) 48 (λ e. absurd (omega arith))))
]

decimal_numeral : (n : ℕ) → n < 2 ^ 64 → is_numeral (decimal n) ≡ true
decimal_numeral n h =
    and_from (has_bytes (decimal n) && list_all is_ascii_digit (decimal n)) ((length (decimal n) == 1) || not (slice_index (decimal n) 0 == 48))
    (and_from (has_bytes (decimal n)) (list_all is_ascii_digit (decimal n)) (has_bytes_of (decimal n) (decimal_is_IsNumeral n h).0.0) (decimal_digits n h))
    (no_leading_zero n h)

-- the number is in the range
pub record IsWithin (low high n : ℕ) : Type 0 where
  pub from : low ≤ n
  pub to : n ≤ high

pub number_within : (low high : ℕ) (w : List ℕ) → IfOk (number_in low high w) (IsWithin low high)
number_within low high w =
    let n = digits_value 10 w in
    of_test (is_numeral w && nat_le low n && nat_le n high) n 4 (IsWithin low high)
    (λ e.
    let outer = and_parts (is_numeral w && nat_le low n) (nat_le n high) e in
    let inner = and_parts (is_numeral w) (nat_le low n) outer.0 in
    record { from = leb-true low n inner.1; to = leb-true n high outer.1 })

pub number_back : (low high n : ℕ) → n < 2 ^ 64 → IsWithin low high n → number_in low high (decimal n) ≡ Ok n
number_back low high n h r =
    let same = (decimal_is_IsNumeral n h).1 in
    let at_n = λ (m : ℕ). cond (is_numeral (decimal n) && nat_le low m && nat_le m high) (Ok m) (Err 4) in
    ap at_n same
    ∙ cond-true (is_numeral (decimal n) && nat_le low n && nat_le n high) (Ok n) (Err 4)
    (and_from (is_numeral (decimal n) && nat_le low n) (nat_le n high) (and_from (is_numeral (decimal n)) (nat_le low n) (decimal_numeral n h) (le-leb low n r.from)) (le-leb n high r.to))

-- ## Names

-- bytes of a kind that are one word
pub record IsSpelled (is_byte : ℕ → Bool) (high : ℕ) (w : List ℕ) : Type 0 where
  pub reads : spelled_in is_byte high w ≡ Ok w
  pub bytes : list_all is_byte w ≡ true
  pub one : is_word w ≡ true

pub name_word_byte : (b : ℕ) → is_name_byte b ≡ true → is_word_byte b ≡ true
name_word_byte b h = grind (arith, leb-true, le-leb, and_parts, and_from)

pub service_word_byte : (b : ℕ) → (is_name_byte b || (b == 46)) ≡ true → is_word_byte b ≡ true
service_word_byte b h = grind (arith, leb-true, le-leb, and_parts, and_from)

pub spelled : (is_byte : ℕ → Bool) (high : ℕ) → ((b : ℕ) → is_byte b ≡ true → is_word_byte b ≡ true) → (w : List ℕ) → IfOk (spelled_in is_byte high w) (IsSpelled is_byte high)
spelled is_byte high kind w =
    let test = has_bytes w && nat_le (length w) high && list_all is_byte w in
    of_test test w 7 (IsSpelled is_byte high)
    (λ e.
    let outer = and_parts (has_bytes w && nat_le (length w) high) (list_all is_byte w) e in
    let inner = and_parts (has_bytes w) (nat_le (length w) high) outer.0 in
    record {
      reads = cond-true test (Ok w) (Err 7) e;
      bytes = outer.1;
      one = and_from (has_bytes w) (list_all is_word_byte w) inner.0 (all_implied is_byte is_word_byte kind w outer.1);
    })

-- ## Hexadecimal

digit_in_word : (d : ℕ) → d < 16 → is_word_byte (slice_index lower_digits d) ≡ true
digit_in_word d h = agree_below_at (λ k. is_word_byte (slice_index lower_digits k)) (λ k. true) 16 d refl h

encoded_bytes : (bytes : List ℕ) → IsBytes bytes → list_all is_word_byte (encode_lower bytes) ≡ true
unfolding encode_with
encoded_bytes [] h = refl
encoded_bytes (b ∷ bytes) h =
    let fits : b < 256 = h 0 in
    and_from (is_word_byte (slice_index lower_digits (b / 16))) (list_all is_word_byte (slice_index lower_digits (b % 16) ∷ encode_lower bytes)) (digit_in_word (b / 16) (omega arith))
    (and_from (is_word_byte (slice_index lower_digits (b % 16))) (list_all is_word_byte (encode_lower bytes)) (digit_in_word (b % 16) (omega arith)) (encoded_bytes bytes (λ k. h (suc k))))

encoded_word : (b : ℕ) (bytes : List ℕ) → IsBytes (b ∷ bytes) → is_word (encode_lower (b ∷ bytes)) ≡ true
unfolding encode_with
encoded_word b bytes h = encoded_bytes (b ∷ bytes) h

pub hex_word : (bytes : List ℕ) → IsBytes bytes → is_word (hex_text bytes) ≡ true
hex_word [] h = refl
hex_word (b ∷ bytes) h = encoded_word b bytes h

no_dash : (b : ℕ) (bytes : List ℕ) → bytes_eq (encode_lower (b ∷ bytes)) (codes "-") ≡ false
unfolding encode_with
no_dash b bytes = and_right (nat_eq (slice_index lower_digits (b / 16)) 45) false refl

encoded_some : (b : ℕ) (bytes : List ℕ) → has_bytes (encode_lower (b ∷ bytes)) ≡ true
unfolding encode_with
encoded_some b bytes = refl

pub hex_back : (bytes : List ℕ) → IsBytes bytes → hex_in (hex_text bytes) ≡ Ok bytes
hex_back [] h = refl
hex_back (b ∷ bytes) h =
    let w = encode_lower (b ∷ bytes) in
    cond-false (not (has_bytes w)) (Err 5) (cond (bytes_eq w (codes "-")) (Ok []) (pairs_in (decode_of w))) (ap not (encoded_some b bytes))
    ∙ cond-false (bytes_eq w (codes "-")) (Ok []) (pairs_in (decode_of w)) (no_dash b bytes)
    ∙ ap pairs_in (decode_of-encode_lower (b ∷ bytes) h)

pairs_bytes : (w : List ℕ) → IfOk (pairs_in (decode_of w)) IsBytes
pairs_bytes w = from (decode_of w) refl
  where
    from : (r : Result (List ℕ) FromHexError) → decode_of w ≡ r → IfOk (pairs_in r) IsBytes
    from (Ok bytes) e = (decode_of-ok w bytes e).3
    from (Err f) e = tt

pub none_bytes : IsBytes []
none_bytes i = omega arith

pub hex_bytes : (w : List ℕ) → IfOk (hex_in w) IsBytes
hex_bytes w =
    of_either (not (has_bytes w)) (Err 5) (cond (bytes_eq w (codes "-")) (Ok []) (pairs_in (decode_of w))) IsBytes tt
    (of_either (bytes_eq w (codes "-")) (Ok []) (pairs_in (decode_of w)) IsBytes none_bytes (pairs_bytes w))

-- ## Lengths

pub sized_reads : (low high : ℕ) (bytes : List ℕ) → IfOk (sized low high bytes) (λ b. sized low high b ≡ Ok b)
sized_reads low high bytes =
    let test = nat_le low (length bytes) && nat_le (length bytes) high in
    of_test test bytes 6 (λ b. sized low high b ≡ Ok b) (λ e. cond-true test (Ok bytes) (Err 6) e)

pub sized_same : (low high : ℕ) (bytes : List ℕ) → IfOk (sized low high bytes) (λ b. b ≡ bytes)
sized_same low high bytes = of_test (nat_le low (length bytes) && nat_le (length bytes) high) bytes 6 (λ b. b ≡ bytes) (λ e. refl)
