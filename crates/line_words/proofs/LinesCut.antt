-- Where a text is cut into lines.
use Rattle.std.proofs.Common.{◌≡◌, ◌≢◌, ℕ, zero, suc, ◌<◌, ◌-◌, ◌==◌, true, false, cond, List, [], ◌∷◌, length, take, drop, get_or, refl, ap, sym, ◌∙◌, arith}
use Rattle.std.proofs.lemmas.Grind.{common_steps}
use Rattle.std.proofs.lemmas.List.{take_all, length-drop}
use Rattle.std.specs.List.{slice_split, onto_first}
use Rattle.std.specs.Str.Lines.{lines, lines_of_parts, strip_carriage_return}

-- before the first such byte is the first piece, and behind it are the others
split_found : (c : ℕ) (xs : List ℕ) (n : ℕ) → n < length xs → ((k : ℕ) → k < n → get_or xs k 0 ≢ c) → get_or xs n 0 ≡ c → slice_split (λ b. b == c) xs ≡ take n xs ∷ slice_split (λ b. b == c) (drop (suc n) xs)
split_found c [] n h before found = absurd (omega (arith, h))
split_found c (x ∷ xs) zero h before found =
    let test : (x == c) ≡ true = grind (arith, common_steps, found) in rw test refl
split_found c (x ∷ xs) (suc n) h before found =
    let ne : x ≢ c = before zero (omega arith) in
    let test : (x == c) ≡ false = grind (arith, common_steps, ne) in
    let again = split_found c xs n (omega (arith, h)) (λ k l. before (suc k) (omega (arith, l))) found in
    rw test (ap (onto_first x) again)

-- without such a byte there is one piece
split_none : (c : ℕ) (xs : List ℕ) → ((k : ℕ) → k < length xs → get_or xs k 0 ≢ c) → slice_split (λ b. b == c) xs ≡ xs ∷ []
split_none c [] before = refl
split_none c (x ∷ xs) before =
    let ne : x ≢ c = before zero (omega arith) in
    let test : (x == c) ≡ false = grind (arith, common_steps, ne) in
    let again = split_none c xs (λ k l. before (suc k) (omega (arith, l))) in
    rw test (ap (onto_first x) again)

some_piece : (c : ℕ) (xs : List ℕ) → (y : List ℕ) × (more : List (List ℕ)) × (slice_split (λ b. b == c) xs ≡ y ∷ more)
some_piece c [] = ([], [], refl)
some_piece c (x ∷ xs) =
    let w = some_piece c xs in
    elim (x == c) as (λ t. (y : List ℕ) × (more : List (List ℕ)) × (cond t ([] ∷ slice_split (λ b. b == c) xs) (onto_first x (slice_split (λ b. b == c) xs)) ≡ y ∷ more))
    [ true ↦ ([], slice_split (λ b. b == c) xs, refl) | false ↦ (x ∷ w.0, w.1, ap (onto_first x) w.2) ]

-- the first line is what stands before the first line feed
pub lines_found : (text : List ℕ) (n : ℕ) → n < length text → ((k : ℕ) → k < n → get_or text k 0 ≢ 10) → get_or text n 0 ≡ 10 → lines text ≡ strip_carriage_return (take n text) ∷ lines (drop (suc n) text)
lines_found text n h before found =
    let w = some_piece 10 (drop (suc n) text) in
    ap lines_of_parts (split_found 10 text n h before found ∙ ap (λ x. take n text ∷ x) w.2) ∙ ap (λ x. strip_carriage_return (take n text) ∷ lines_of_parts x) (sym w.2)

-- without a line feed the text is one line
pub lines_last : (text : List ℕ) → 0 < length text → ((k : ℕ) → k < length text → get_or text k 0 ≢ 10) → lines text ≡ text ∷ []
lines_last [] h before = absurd (omega (arith, h))
lines_last (x ∷ xs) h before =
    let test : (suc (length xs) == 0) ≡ false = grind (arith, common_steps) in
    ap lines_of_parts (split_none 10 (x ∷ xs) before) ∙ rw test refl

drop_more : (n : ℕ) (text : List ℕ) → drop 1 (drop n text) ≡ drop (suc n) text
drop_more zero text = refl
drop_more (suc n) [] = refl
drop_more (suc n) (x ∷ text) = drop_more n text

-- what is behind the byte at which a text was cut
pub behind_one : (rest : List ℕ) (n : ℕ) (text : List ℕ) → rest ≡ drop n text → take (length rest - 1) (drop 1 rest) ≡ drop (suc n) text
behind_one rest n text e =
    let all : take (length rest - 1) (drop 1 rest) ≡ drop 1 rest = take_all (length rest - 1) (drop 1 rest) (omega (arith, length-drop 1 rest)) in
    all ∙ ap (λ (r : List ℕ). drop 1 r) e ∙ drop_more n text
