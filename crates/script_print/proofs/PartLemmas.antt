-- The parts of a line: lists of names, service and method, options, seats and kinds of step.
use Rattle.std.proofs.Common.{◌≡◌, ℕ, suc, ◌+◌, ◌-◌, ◌^◌, ◌<◌, Bool, true, false, if◌then◌else◌, not, nat_le, nat_lt, ◌==◌, List, [], ◌∷◌, ◌++◌, length, get_or, take, drop, map, filter, count_by, decimal, bytes_eq, IfOk, Ok, Err, refl, ap, sym, ◌∙◌, arith, eq-eqb, eqb-true, ne_eqb, inl, inr, ◌⊎◌, All, length-append}
use Rattle.std.specs.List.{list_all, list_any, slice_split, before_last, after_last, suffix_len, join_with_byte}
use Rattle.std.proofs.lemmas.Bool.{and_parts, and_from, or_cases, cond-true, cond-false, false≢true}
use Rattle.std.proofs.lemmas.List.{get_or-append-add}
use Rattle.std.proofs.lemmas.List.Sums.{suffix_len_is}
use Rattle.std.proofs.lemmas.List.Splits.{slice_split_none, slice_split_at}
use Rattle.std.proofs.lemmas.Slice.Eq.{bytes_eq-Decides}
use Rattle.std.proofs.Math.Seq.{take-append_seam, drop-append-add}
use Rattle.std.specs.Char.{is_ascii_digit}
use Rattle.brpc_model.specs.Text.{number_in, is_name_byte, name_in}
use Rattle.brpc_model.specs.LinePartReads.{Reads, ◌<*>◌, ◌>>=◌, option_in}
use Rattle.brpc_model.specs.Items.{Item, Seat, ClientSeat, ReaderSeat, is_client, is_open}
use Rattle.brpc_model.specs.ScriptLineFaults.{kind_names, kind_in, names_in, target_in, seat_in}
use Rattle.brpc_model.specs.ScriptText.{seat_text}
use Rattle.script_print.proofs.Spaced.{is_word, is_word_byte, none_of, all_append}
use Rattle.script_print.proofs.Gives.{of_test, of_part, of_parts, of_next, of_either, weaker}
use Rattle.script_print.proofs.TokensReadAgain.{IsWithin, IsSpelled, number_within, number_back, decimal_word, decimal_digits, spelled, name_word_byte}

-- ## Options

-- what is printed unless it is the default
abbrev pub unless : Bool → List ℕ → List (List ℕ)
unless default w = if default then [] else w ∷ []

pub passed_over : (p : List ℕ → Bool) (default : Bool) (w : List ℕ) (rest : List (List ℕ)) → p w ≡ false → filter p (unless default w ++ rest) ≡ filter p rest
passed_over p true w rest e = refl
passed_over p false w rest e = cond-false (p w) (w ∷ filter p rest) (filter p rest) e

pub picked : (p : List ℕ → Bool) (default : Bool) (w : List ℕ) (rest : List (List ℕ)) → p w ≡ true → filter p rest ≡ [] → filter p (unless default w ++ rest) ≡ unless default w
picked p true w rest e none = none
picked p false w rest e none = cond-true (p w) (w ∷ filter p rest) (filter p rest) e ∙ ap (λ ws. w ∷ ws) none

pub all_unless : (p : List ℕ → Bool) (default : Bool) (w : List ℕ) (rest : List (List ℕ)) → (default ≡ false → p w ≡ true) → list_all p rest ≡ true → list_all p (unless default w ++ rest) ≡ true
all_unless p true w rest e more = more
all_unless p false w rest e more = and_from (p w) (list_all p rest) (e refl) more

-- the value of an option that was printed unless it is the default
pub option_back : {A : Type 0} (read : List ℕ → Reads A) (other x : A) (default : Bool) (v : List ℕ) → (default ≡ true → other ≡ x) → (default ≡ false → read v ≡ Ok x) → option_in read other (unless default v) ≡ Ok x
option_back read other x true v same back = ap (λ y. Ok y) (same refl)
option_back read other x false v same back = back refl

pub behind_key : (n : ℕ) (default : Bool) (w v : List ℕ) → drop n w ≡ v → map (drop n) (unless default w) ≡ unless default v
behind_key n true w v e = refl
behind_key n false w v e = ap (λ x. x ∷ []) e

-- what holds of what an option gives
pub of_option : {A : Type 0} (read : List ℕ → Reads A) (other : A) (ws : List (List ℕ)) (P : A → Type 0) → P other → ((w : List ℕ) → IfOk (read w) P) → IfOk (option_in read other ws) P
of_option read other [] P h k = h
of_option read other (w ∷ []) P h k = k w
of_option read other (w ∷ v ∷ more) P h k = tt

-- a number in a range, or its default
abbrev pub IsOption : ℕ → ℕ → ℕ → ℕ → Type 0
IsOption default low high n = (n ≡ default) ⊎ IsWithin low high n

pub number_option : (default low high : ℕ) (ws : List (List ℕ)) → IfOk (option_in (number_in low high) default ws) (IsOption default low high)
number_option default low high ws =
    of_option (number_in low high) default ws (IsOption default low high) (inl refl)
    (λ w. weaker (number_in low high w) (IsWithin low high) (IsOption default low high) (number_within low high w) (λ n h. inr h))

within : (default low high n : ℕ) → IsOption default low high n → (n == default) ≡ false → IsWithin low high n
within default low high n (inl same) e = absurd (false≢true (sym e ∙ eq-eqb n default same))
within default low high n (inr h) e = h

pub number_option_back : (default low high n : ℕ) → high < 2 ^ 64 → IsOption default low high n → option_in (number_in low high) default (unless (n == default) (decimal n)) ≡ Ok n
number_option_back default low high n top h =
    option_back (number_in low high) default n (n == default) (decimal n) (λ e. sym (eqb-true n default e))
    (λ e. let r = within default low high n h e in let last = r.to in number_back low high n (omega arith) r)

pub number_option_word : (default low high n : ℕ) → high < 2 ^ 64 → IsOption default low high n → (n == default) ≡ false → is_word (decimal n) ≡ true
number_option_word default low high n top h e = let r = within default low high n h e in let last = r.to in decimal_word n (omega arith)

-- ## One or two names

abbrev pub IsName : List ℕ → Type 0
IsName w = IsSpelled is_name_byte 16 w

pub named : (w : List ℕ) → IfOk (name_in w) IsName
named w = spelled is_name_byte 16 name_word_byte w

abbrev pub IsNames : List (List ℕ) → Type 0
IsNames [] = ⊥
IsNames (n ∷ []) = IsName n
IsNames (n ∷ m ∷ []) = IsName n × IsName m
IsNames (n ∷ m ∷ l ∷ more) = ⊥

pub names_of : (ws : List (List ℕ)) → IfOk (names_in ws) IsNames
names_of [] = tt
names_of (one ∷ []) = of_part (λ n. n ∷ []) (name_in one) IsName IsNames (named one) (λ n h. h)
names_of (one ∷ other ∷ []) = of_parts (λ n m. n ∷ m ∷ []) (name_in one) (name_in other) IsName IsName IsNames (named one) (named other) (λ n m h k. (h, k))
names_of (one ∷ other ∷ more ∷ most) = tt

no_comma : (b : ℕ) → is_name_byte b ≡ true → (b == 44) ≡ false
no_comma b h = ne_eqb b 44 (λ e. false≢true (ap is_name_byte (sym e) ∙ h))

no_dot : (b : ℕ) → is_name_byte b ≡ true → (b == 46) ≡ false
no_dot b h = ne_eqb b 46 (λ e. false≢true (ap is_name_byte (sym e) ∙ h))

uncut : (n : List ℕ) → IsName n → All (λ b. (b == 44) ≡ false) n
uncut n h = none_of is_name_byte (λ b. b == 44) no_comma n h.bytes

pub names_back : (ns : List (List ℕ)) → IsNames ns → names_in (slice_split (λ b. b == 44) (join_with_byte 44 ns)) ≡ Ok ns
names_back [] h = absurd h
names_back (n ∷ []) h = ap names_in (slice_split_none (λ b. b == 44) n (uncut n h)) ∙ ap (λ r. Ok (λ n. n ∷ []) <*> r) h.reads
names_back (n ∷ m ∷ []) h =
    ap names_in (slice_split_at (λ b. b == 44) n 44 m (uncut n h.0) refl ∙ ap (λ ws. n ∷ ws) (slice_split_none (λ b. b == 44) m (uncut m h.1)))
    ∙ ap (λ r. Ok (λ n m. n ∷ m ∷ []) <*> r <*> name_in m) h.0.reads
    ∙ ap (λ r. Ok (λ n m. n ∷ m ∷ []) <*> Ok n <*> r) h.1.reads
names_back (n ∷ m ∷ l ∷ more) h = absurd h

pub word_parts : (w : List ℕ) → is_word w ≡ true → list_all is_word_byte w ≡ true
word_parts [] h = refl
word_parts (b ∷ w) h = h

-- two words and a printable byte between them are one word
pub joined_word : (v w : List ℕ) (b : ℕ) → is_word v ≡ true → is_word w ≡ true → is_word_byte b ≡ true → is_word (v ++ b ∷ w) ≡ true
joined_word [] w b h k e = absurd (false≢true h)
joined_word (c ∷ v) w b h k e = all_append is_word_byte (c ∷ v) (b ∷ w) (word_parts (c ∷ v) h) (and_from (is_word_byte b) (list_all is_word_byte w) e (word_parts w k))

pub names_word : (ns : List (List ℕ)) → IsNames ns → is_word (join_with_byte 44 ns) ≡ true
names_word [] h = absurd h
names_word (n ∷ []) h = h.one
names_word (n ∷ m ∷ []) h = joined_word n m 44 h.0.one h.1.one refl
names_word (n ∷ m ∷ l ∷ more) h = absurd h

-- ## Service and method, parted by the last dot

no_dots : (m : List ℕ) → list_all is_name_byte m ≡ true → All (λ b. (b == 46) ≡ false) m
no_dots m h = none_of is_name_byte (λ b. b == 46) no_dot m h

dot_at : (s m : List ℕ) → list_all is_name_byte m ≡ true → suffix_len (λ b. not (b == 46)) (s ++ 46 ∷ m) ≡ length (s ++ 46 ∷ m) - (length s + 1)
dot_at s m h =
    let xs = s ++ 46 ∷ m in
    let long : length xs ≡ length s + length (46 ∷ m) = length-append s (46 ∷ m) in
    suffix_len_is (λ b. not (b == 46)) xs (length s + 1) 0 (omega arith)
    (λ k low high.
    let j = k - (length s + 1) in
    let place : k ≡ length s + suc j = omega arith in
    let at : get_or xs k 0 ≡ get_or m j 0 = ap (λ i. get_or xs i 0) place ∙ get_or-append-add s (46 ∷ m) (suc j) 0 in
    ap (λ b. not (b == 46)) at ∙ ap not (no_dots m h j 0 (omega arith)))
    (λ some.
    let place : length s + 1 - 1 ≡ length s + 0 = omega arith in
    let at : get_or xs (length s + 1 - 1) 0 ≡ 46 = ap (λ i. get_or xs i 0) place ∙ get_or-append-add s (46 ∷ m) 0 0 in
    ap (λ b. not (b == 46)) at)

pub before_dot : (s m : List ℕ) → list_all is_name_byte m ≡ true → before_last (λ b. b == 46) (s ++ 46 ∷ m) ≡ s
before_dot s m h =
    let xs = s ++ 46 ∷ m in
    let long : length xs ≡ length s + length (46 ∷ m) = length-append s (46 ∷ m) in
    let cut = dot_at s m h in
    let n : length xs - suffix_len (λ b. not (b == 46)) xs - 1 ≡ length s = omega arith in
    ap (λ n. take n xs) n ∙ take-append_seam s (46 ∷ m)

pub after_dot : (s m : List ℕ) → list_all is_name_byte m ≡ true → after_last (λ b. b == 46) (s ++ 46 ∷ m) ≡ m
after_dot s m h =
    let xs = s ++ 46 ∷ m in
    let long : length xs ≡ length s + length (46 ∷ m) = length-append s (46 ∷ m) in
    let cut = dot_at s m h in
    let n : length xs - suffix_len (λ b. not (b == 46)) xs ≡ length s + 1 = omega arith in
    ap (λ n. drop n xs) n ∙ drop-append-add s (46 ∷ m) 1

-- ## `C.I`

digit_no_dot : (b : ℕ) → is_ascii_digit b ≡ true → (b == 46) ≡ false
digit_no_dot b h = ne_eqb b 46 (λ e. false≢true (ap is_ascii_digit (sym e) ∙ h))

abbrev pub IsTarget : ℕ → ℕ → Type 0
IsTarget client number = IsWithin 0 18446744073709551615 client × IsWithin 0 18446744073709551615 number

pub target_of : (make : ℕ → ℕ → Item) (P : Item → Type 0) → ((c i : ℕ) → IsTarget c i → P (make c i)) → (ws : List (List ℕ)) → IfOk (target_in make ws) P
target_of make P k [] = tt
target_of make P k (c ∷ []) = tt
target_of make P k (c ∷ i ∷ []) =
    of_parts make (number_in 0 18446744073709551615 c) (number_in 0 18446744073709551615 i) (IsWithin 0 18446744073709551615) (IsWithin 0 18446744073709551615) P
    (number_within 0 18446744073709551615 c) (number_within 0 18446744073709551615 i) (λ x y hx hy. k x y (hx, hy))
target_of make P k (c ∷ i ∷ j ∷ more) = tt

pub below_64 : (n : ℕ) → IsWithin 0 18446744073709551615 n → n < 2 ^ 64
below_64 n h = let top = h.to in omega arith

pub target_back : (make : ℕ → ℕ → Item) (c i : ℕ) → IsTarget c i → target_in make (slice_split (λ b. b == 46) (decimal c ++ 46 ∷ decimal i)) ≡ Ok (make c i)
target_back make c i h =
    let cut = slice_split_at (λ b. b == 46) (decimal c) 46 (decimal i) (none_of is_ascii_digit (λ b. b == 46) digit_no_dot (decimal c) (decimal_digits c (below_64 c h.0))) refl
    ∙ ap (λ ws. decimal c ∷ ws) (slice_split_none (λ b. b == 46) (decimal i) (none_of is_ascii_digit (λ b. b == 46) digit_no_dot (decimal i) (decimal_digits i (below_64 i h.1)))) in
    ap (target_in make) cut
    ∙ ap (λ r. Ok make <*> r <*> number_in 0 18446744073709551615 (decimal i)) (number_back 0 18446744073709551615 c (below_64 c h.0) h.0)
    ∙ ap (λ r. Ok make <*> Ok c <*> r) (number_back 0 18446744073709551615 i (below_64 i h.1) h.1)

pub target_word : (c i : ℕ) → IsTarget c i → is_word (decimal c ++ 46 ∷ decimal i) ≡ true
target_word c i h = joined_word (decimal c) (decimal i) 46 (decimal_word c (below_64 c h.0)) (decimal_word i (below_64 i h.1)) refl

-- ## Seats

abbrev pub IsSeat : List Item → Seat → Type 0
IsSeat before (ClientSeat c) = IsWithin 1 31 c × (nat_le c (count_by is_client before) ≡ true)
IsSeat before (ReaderSeat k) = IsWithin 0 30 k × (nat_lt k (count_by is_open before) ≡ true)

pub seated : (before : List Item) (w : List ℕ) → IfOk (seat_in before w) (IsSeat before)
seated before [] = tt
seated before (b ∷ w) =
    of_either (b == 114) (number_in 0 30 w >>= (λ k. if nat_lt k (count_by is_open before) then Ok (ReaderSeat k) else Err 4))
    (number_in 1 31 (b ∷ w) >>= (λ c. if nat_le c (count_by is_client before) then Ok (ClientSeat c) else Err 4)) (IsSeat before)
    (of_next (number_in 0 30 w) (λ k. if nat_lt k (count_by is_open before) then Ok (ReaderSeat k) else Err 4) (IsWithin 0 30) (IsSeat before) (number_within 0 30 w)
    (λ k h. of_test (nat_lt k (count_by is_open before)) (ReaderSeat k) 4 (IsSeat before) (λ e. (h, e))))
    (of_next (number_in 1 31 (b ∷ w)) (λ c. if nat_le c (count_by is_client before) then Ok (ClientSeat c) else Err 4) (IsWithin 1 31) (IsSeat before) (number_within 1 31 (b ∷ w))
    (λ c h. of_test (nat_le c (count_by is_client before)) (ClientSeat c) 4 (IsSeat before) (λ e. (h, e))))

digit_first : (before : List Item) (ds : List ℕ) → is_word ds ≡ true → list_all is_ascii_digit ds ≡ true → seat_in before ds ≡ (number_in 1 31 ds >>= (λ c. if nat_le c (count_by is_client before) then Ok (ClientSeat c) else Err 4))
digit_first before [] h k = absurd (false≢true h)
digit_first before (d ∷ ds) h k =
    let digit = (and_parts (is_ascii_digit d) (list_all is_ascii_digit ds) k).0 in
    cond-false (d == 114) (number_in 0 30 ds >>= (λ k. if nat_lt k (count_by is_open before) then Ok (ReaderSeat k) else Err 4))
    (number_in 1 31 (d ∷ ds) >>= (λ c. if nat_le c (count_by is_client before) then Ok (ClientSeat c) else Err 4))
    (ne_eqb d 114 (λ e. false≢true (ap is_ascii_digit (sym e) ∙ digit)))

pub seat_back : (before : List Item) (seat : Seat) → IsSeat before seat → seat_in before (seat_text seat) ≡ Ok seat
seat_back before (ClientSeat c) h =
    let top = h.0.to in
    let small : c < 2 ^ 64 = omega arith in
    digit_first before (decimal c) (decimal_word c small) (decimal_digits c small)
    ∙ ap (λ r. r >>= (λ c. if nat_le c (count_by is_client before) then Ok (ClientSeat c) else Err 4)) (number_back 1 31 c small h.0)
    ∙ cond-true (nat_le c (count_by is_client before)) (Ok (ClientSeat c)) (Err 4) h.1
seat_back before (ReaderSeat k) h =
    let top = h.0.to in
    let small : k < 2 ^ 64 = omega arith in
    ap (λ r. r >>= (λ k. if nat_lt k (count_by is_open before) then Ok (ReaderSeat k) else Err 4)) (number_back 0 30 k small h.0)
    ∙ cond-true (nat_lt k (count_by is_open before)) (Ok (ReaderSeat k)) (Err 4) h.1

pub seat_word : (before : List Item) (seat : Seat) → IsSeat before seat → is_word (seat_text seat) ≡ true
seat_word before (ClientSeat c) h = let top = h.0.to in decimal_word c (omega arith)
seat_word before (ReaderSeat k) h = let top = h.0.to in word_parts (decimal k) (decimal_word k (omega arith))

-- ## Kinds of step

pub record IsKind (w : List ℕ) : Type 0 where
  pub reads : kind_in w ≡ Ok w
  pub one : is_word w ≡ true

one_of : (w : List ℕ) (ks : List (List ℕ)) → list_any (bytes_eq w) ks ≡ true → list_all is_word ks ≡ true → is_word w ≡ true
one_of w [] e h = absurd (false≢true e)
one_of w (k ∷ ks) e h =
    let parts = and_parts (is_word k) (list_all is_word ks) h in
    elim (or_cases (bytes_eq w k) (list_any (bytes_eq w) ks) e) [
      | inl here ↦ ap is_word ((bytes_eq-Decides w k).0 here) ∙ parts.0
      | inr later ↦ one_of w ks later parts.1
    ]

pub kind_of : (w : List ℕ) → IfOk (kind_in w) IsKind
kind_of w =
    let test = list_any (bytes_eq w) kind_names in
    of_test test w 7 IsKind (λ e. record { reads = cond-true test (Ok w) (Err 7) e; one = one_of w kind_names e refl })
