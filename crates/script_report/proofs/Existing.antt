-- Whatever place words a run left, there is a report that they tell.
use Rattle.std.proofs.Common.{◌≡◌, ℕ, zero, suc, ◌+◌, ◌-◌, ◌%◌, ◌<◌, List, [], ◌∷◌, ◌++◌, length, map, max, replicate, slice_get, slice_set, Option, Some, refl, ap, ◌∙◌, subst, codes, arith}
use Rattle.std.proofs.lemmas.List.{length-append}
use native.Mathlib.Decide.{dec_lt}
use mathlib.Core.Logic.{dite}
use Rattle.sock_words.specs.declared.outcome.Outcome.{Outcome}
use Rattle.sock_words.specs.declared.place_word.PlaceWord.{PlaceWord}
use Rattle.sock_words.specs.PackedWords.{place_word_link, place_word_position}
use Rattle.brpc_model.specs.Items.{Item}
use Rattle.brpc_model.specs.Operations.{operations, link_names}
use Rattle.brpc_model.specs.PlaceWords.{word_at, outcomes_from, ArePlaces, IsReportText}
use Rattle.script_report.specs.declared.links.ReportLabel.{ReportLabel}
use Rattle.script_report.specs.ReportLines.{place_of, outcome_text_lines}
use Rattle.script_report.specs.OrderRows.{label_at, rows_text, IsPutAt, IsFiled, AreRows}
use Rattle.script_report.proofs.ReportedOrders.{report_of_orders}
use Rattle.script_report.proofs.OrderRows.{get_same, get_other, length_set, some_filed, none_told, none_filed, no_rows, length_empty, rows_more}

there : {A : Type 0} (xs : List A) (i : ℕ) → i < length xs → (x : A) × (slice_get xs i ≡ Some x)
there [] i inside = absurd (omega (arith, inside))
there (x ∷ xs) zero inside = (x, refl)
there (x ∷ xs) (suc i) inside = there xs i (omega (arith, inside))

in_front : {A : Type 0} (xs ys : List A) (i : ℕ) → i < length xs → slice_get (xs ++ ys) i ≡ slice_get xs i
in_front [] ys i inside = absurd (omega (arith, inside))
in_front (x ∷ xs) ys zero inside = refl
in_front (x ∷ xs) ys (suc i) inside = in_front xs ys i (omega (arith, inside))

so_many : {A : Type 0} (n : ℕ) (x : A) → length (replicate n x) ≡ n
so_many zero x = refl
so_many (suc n) x = ap suc (so_many n x)

-- ## A label at its position

filled : ℕ → ReportLabel → List ReportLabel → List ReportLabel
filled position label row = row ++ replicate (position + 1 - length row) label

filled_length : (position : ℕ) (label : ReportLabel) (row : List ReportLabel) → length (row ++ replicate (position + 1 - length row) label) ≡ max (length row) (position + 1)
filled_length position label row = let one = length-append row (replicate (position + 1 - length row) label) in let two = so_many (position + 1 - length row) label in omega (arith, one, two)

put_at : (position : ℕ) (label : ReportLabel) (row : List ReportLabel) → IsPutAt position label row (slice_set (row ++ replicate (position + 1 - length row) label) position label)
put_at position label row = let full = row ++ replicate (position + 1 - length row) label in let long = filled_length position label row in record {
  here = get_same full position label (omega (arith, long));
  elsewhere = λ p other inside. get_other full position p label other ∙ in_front row (replicate (position + 1 - length row) label) p inside;
  length_is = length_set full position label ∙ long;
}

filed : (word : ℕ) (label : ReportLabel) (rows : List (List ReportLabel)) → (new : List (List ReportLabel)) × IsFiled word label rows new
filed word label rows = dite (dec_lt 0 (word % 4294967296))
    (λ has. dite (dec_lt (place_word_link word) (length rows))
    (λ inside. let row = there rows (place_word_link word) inside in
    (_, some_filed word label rows (place_word_link word) row.0 _ has refl row.1 (put_at (place_word_position word) label row.0)))
    (λ past. (rows, none_filed word label rows (place_word_link word) refl (omega (arith, past)))))
    (λ none_. (rows, none_told word label rows none_))

-- ## All labels

rows_of : (words : List PlaceWord) (names : List (List ℕ)) → ArePlaces words → (n : ℕ) → (rows : List (List ReportLabel)) × (length rows ≡ length names) × AreRows words n rows
rows_of words names are zero = (map (λ _. []) names, length_empty names _ refl, no_rows words names _ refl)
rows_of words names are (suc n) = let before = rows_of words names are n in let after = filed (word_at words n) (label_at n) before.0 in let one_more : n + 1 ≡ suc n = omega arith in
    (after.0, after.1.same_links ∙ before.1, subst (λ m. AreRows words m after.0) one_more (rows_more words n (word_at words n) before.0 after.0 are refl after.1 before.2))

-- there is a report of this run
pub report_exists : (script : List Item) (said : List (Option Outcome)) (words : List PlaceWord) (took : List (List ℕ)) → ArePlaces words → (text : List ℕ) × IsReportText script said words took text
report_exists script said words took are = let rows = rows_of words (link_names script) are (length words) in let places = map place_of (operations script) in
    (_, report_of_orders script said words took rows.0 places places rows.0 [] _ _ ((([] ++ outcome_text_lines places (outcomes_from words 0 said)) ++ rows_text places words rows.0 took 0 (link_names script)) ++ codes "end\n") are rows.1 rows.2 refl refl refl refl refl refl refl)
