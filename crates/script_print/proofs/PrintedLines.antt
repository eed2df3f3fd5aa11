-- The lines of a printed text are the lines that were printed.
use Rattle.std.proofs.Common.{◌≡◌, ℕ, zero, suc, ◌-◌, ◌<◌, true, false, nat_le, ◌==◌, List, [], ◌∷◌, ◌++◌, length, take, map, flat_map, slice_index, refl, ap, ◌∙◌, append_assoc, arith, leb-true, ne_eqb}
use Rattle.std.specs.List.{slice_split, list_all}
use Rattle.std.specs.Str.Lines.{lines, lines_of_parts, strip_carriage_return}
use Rattle.std.proofs.lemmas.Bool.{and_parts, cond-false}
use Rattle.std.proofs.lemmas.List.Splits.{slice_split_at, length-slice_split}
use Rattle.brpc_model.specs.Items.{Item}
use Rattle.brpc_model.specs.ScriptLineFaults.{is_text_byte}
use Rattle.brpc_model.specs.ScriptText.{item_text}
use Rattle.script_print.specs.PrintedParts.{line}
use Rattle.script_print.proofs.Spaced.{none_of}
use Rattle.script_print.proofs.Formed.{line_text}
use Rattle.script_print.proofs.PlacedItems.{Stand}

no_end : (b : ℕ) → is_text_byte b ≡ true → (b == 10) ≡ false
no_end b h =
    let low = leb-true 32 b (and_parts (nat_le 32 b) (nat_le b 126) h).0 in
    ne_eqb b 10 (λ e. absurd (omega arith))

no_return_at : (l : List ℕ) (k : ℕ) → list_all is_text_byte l ≡ true → (slice_index l k == 13) ≡ false
no_return_at [] k h = refl
no_return_at (b ∷ l) zero h =
    let low = leb-true 32 b (and_parts (nat_le 32 b) (nat_le b 126) (and_parts (is_text_byte b) (list_all is_text_byte l) h).0).0 in
    ne_eqb b 13 (λ e. absurd (omega arith))
no_return_at (b ∷ l) (suc k) h = no_return_at l k (and_parts (is_text_byte b) (list_all is_text_byte l) h).1

kept : (l : List ℕ) → list_all is_text_byte l ≡ true → strip_carriage_return l ≡ l
kept l h = cond-false (slice_index l (length l - 1) == 13) (take (length l - 1) l) l (no_return_at l (length l - 1) h)

first_line : (l : List ℕ) (parts : List (List ℕ)) → 0 < length parts → lines_of_parts (l ∷ parts) ≡ strip_carriage_return l ∷ lines_of_parts parts
first_line l [] h = absurd (omega arith)
first_line l (p ∷ parts) h = refl

some_parts : (bs : List ℕ) → 0 < length (slice_split (λ b. b == 10) bs)
some_parts bs = let n = length-slice_split (λ b. b == 10) bs in omega arith

-- a text of whole lines begins with the first of them
pub lines_begin : (l rest : List ℕ) → list_all is_text_byte l ≡ true → lines ((l ++ 10 ∷ []) ++ rest) ≡ l ∷ lines rest
lines_begin l rest h =
    ap lines (append_assoc l (10 ∷ []) rest)
    ∙ ap lines_of_parts (slice_split_at (λ b. b == 10) l 10 rest (none_of is_text_byte (λ b. b == 10) no_end l h) refl)
    ∙ first_line l (slice_split (λ b. b == 10) rest) (some_parts rest)
    ∙ ap (λ w. w ∷ lines rest) (kept l h)

pub lines_printed : (is before : List Item) → Stand before is → lines (flat_map line is) ≡ map item_text is
lines_printed [] before h = refl
lines_printed (i ∷ is) before h = lines_begin (item_text i) (flat_map line is) (line_text before i h.0.formed) ∙ ap (λ ls. item_text i ∷ ls) (lines_printed is (before ++ i ∷ []) h.1)
