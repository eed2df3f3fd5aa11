-- Words behind one another, with a space between each two, are read as these words.
use Rattle.std.proofs.Common.{◌≡◌, ℕ, Bool, true, false, ◌&&◌, nat_le, ◌==◌, List, [], ◌∷◌, ◌++◌, filter, flat_map, refl, ap, ◌∙◌, append-nil, arith, leb-true, ne_eqb, All}
use Rattle.std.specs.List.{slice_split, list_all}
use Rattle.std.proofs.lemmas.Bool.{and_parts, and_from, cond-true}
use Rattle.std.proofs.lemmas.List.Splits.{slice_split_none, slice_split_at}
use Rattle.std.proofs.lemmas.List.Sums.{AllPass-from_list_all}
use Rattle.std.proofs.lemmas.List.Folds.{list_all-append}
use Rattle.std.proofs.lemmas.List.Elements.{All-weaker}
use Rattle.sock_words.specs.PrintedWords.{word}
use Rattle.brpc_model.specs.Text.{has_bytes, words}
use Rattle.brpc_model.specs.ScriptLineFaults.{is_text_byte}

-- a byte of a word: printable, and no space
abbrev pub is_word_byte : ℕ → Bool
is_word_byte b = nat_le 33 b && nat_le b 126

-- bytes that are one word
abbrev pub is_word : List ℕ → Bool
is_word w = has_bytes w && list_all is_word_byte w

-- ## Tests of each element

pub all_implied : {A : Type 0} (p q : A → Bool) → ((x : A) → p x ≡ true → q x ≡ true) → (xs : List A) → list_all p xs ≡ true → list_all q xs ≡ true
all_implied p q h [] e = refl
all_implied p q h (x ∷ xs) e =
    let parts = and_parts (p x) (list_all p xs) e in
    and_from (q x) (list_all q xs) (h x parts.0) (all_implied p q h xs parts.1)

pub all_append : {A : Type 0} (p : A → Bool) (xs ys : List A) → list_all p xs ≡ true → list_all p ys ≡ true → list_all p (xs ++ ys) ≡ true
all_append p xs ys h k = list_all-append p xs ys ∙ and_from (list_all p xs) (list_all p ys) h k

-- a test that fails on each element that another passes
pub none_of : {A : Type 0} (p q : A → Bool) → ((x : A) → p x ≡ true → q x ≡ false) → (xs : List A) → list_all p xs ≡ true → All (λ x. q x ≡ false) xs
none_of p q h xs e = All-weaker (λ x. p x ≡ true) (λ x. q x ≡ false) h xs (AllPass-from_list_all p xs e)

no_space : (b : ℕ) → is_word_byte b ≡ true → (b == 32) ≡ false
no_space b h =
    let low = leb-true 33 b (and_parts (nat_le 33 b) (nat_le b 126) h).0 in
    ne_eqb b 32 (λ e. absurd (omega arith))

pub text_byte : (b : ℕ) → is_word_byte b ≡ true → is_text_byte b ≡ true
text_byte b h =
    let parts = and_parts (nat_le 33 b) (nat_le b 126) h in
    let low = leb-true 33 b parts.0 in
    and_from (nat_le 32 b) (nat_le b 126) (grind arith) parts.1

-- ## The words

split_spaced : (w : List ℕ) (ws : List (List ℕ)) → is_word w ≡ true → list_all is_word ws ≡ true → slice_split (λ b. b == 32) (w ++ flat_map word ws) ≡ w ∷ ws
split_spaced w [] h hs =
    ap (slice_split (λ b. b == 32)) (append-nil w)
    ∙ slice_split_none (λ b. b == 32) w (none_of is_word_byte (λ b. b == 32) no_space w (and_parts (has_bytes w) (list_all is_word_byte w) h).1)
split_spaced w (v ∷ vs) h hs =
    let parts = and_parts (is_word v) (list_all is_word vs) hs in
    slice_split_at (λ b. b == 32) w 32 (v ++ flat_map word vs) (none_of is_word_byte (λ b. b == 32) no_space w (and_parts (has_bytes w) (list_all is_word_byte w) h).1) refl
    ∙ ap (λ xs. w ∷ xs) (split_spaced v vs parts.0 parts.1)

pub all_kept : {A : Type 0} (p : A → Bool) (xs : List A) → list_all p xs ≡ true → filter p xs ≡ xs
all_kept p [] h = refl
all_kept p (x ∷ xs) h =
    let parts = and_parts (p x) (list_all p xs) h in
    cond-true (p x) (x ∷ filter p xs) (filter p xs) parts.0 ∙ ap (λ ys. x ∷ ys) (all_kept p xs parts.1)

-- the words of spaced words
pub words_spaced : (w : List ℕ) (ws : List (List ℕ)) → list_all is_word (w ∷ ws) ≡ true → words (w ++ flat_map word ws) ≡ w ∷ ws
words_spaced w ws h =
    let parts = and_parts (is_word w) (list_all is_word ws) h in
    ap (filter has_bytes) (split_spaced w ws parts.0 parts.1)
    ∙ all_kept has_bytes (w ∷ ws) (all_implied is_word has_bytes (λ v e. (and_parts (has_bytes v) (list_all is_word_byte v) e).0) (w ∷ ws) h)

text_of_word : (w : List ℕ) → is_word w ≡ true → list_all is_text_byte w ≡ true
text_of_word w h = all_implied is_word_byte is_text_byte text_byte w (and_parts (has_bytes w) (list_all is_word_byte w) h).1

text_of_words : (ws : List (List ℕ)) → list_all is_word ws ≡ true → list_all is_text_byte (flat_map word ws) ≡ true
text_of_words [] h = refl
text_of_words (w ∷ ws) h =
    let parts = and_parts (is_word w) (list_all is_word ws) h in
    all_append is_text_byte w (flat_map word ws) (text_of_word w parts.0) (text_of_words ws parts.1)

-- each byte of spaced words is a space or printable
pub text_spaced : (w : List ℕ) (ws : List (List ℕ)) → list_all is_word (w ∷ ws) ≡ true → list_all is_text_byte (w ++ flat_map word ws) ≡ true
text_spaced w ws h =
    let parts = and_parts (is_word w) (list_all is_word ws) h in
    all_append is_text_byte w (flat_map word ws) (text_of_word w parts.0) (text_of_words ws parts.1)
