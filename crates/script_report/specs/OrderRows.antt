-- How the orders of all links are gathered, and the lines that are printed of them.
use Rattle.std.specs.Prelude.{ℕ, ◌≡◌, ◌≢◌, ◌<◌, ◌≤◌, ◌+◌, ◌/◌, ◌%◌, List, [], ◌∷◌, ◌++◌, length, map, count_by, slice_get, unwrap_or, max, Some}
use Rattle.sock_words.specs.declared.place_word.PlaceWord.{PlaceWord}
use Rattle.sock_words.specs.PackedWords.{HasPosition, place_word_link, place_word_position}
use Rattle.brpc_model.specs.Report.{LinkLine}
use Rattle.script_report.specs.declared.operations.OperationPlace.{OperationPlace}
use Rattle.script_report.specs.declared.links.ReportLabel.{ReportLabel}
use Rattle.script_report.specs.ReportLines.{label_of, link_lines_text}
use Rattle.brpc_model.specs.PlaceWords.{word_at, Tells, is_placed, took_at}

-- the label of a place word
abbrev pub label_at : ℕ → ReportLabel
label_at number = record { operation = number / 8; attempt = number % 8 }

-- a label was put at its position, and those at other positions are as they were
pub record IsPutAt (position : ℕ) (label : ReportLabel) (old new : List ReportLabel) : Type 0 where
  pub here : slice_get new position ≡ Some label
  pub elsewhere : (p : ℕ) → p ≢ position → p < length old → slice_get new p ≡ slice_get old p
  pub length_is : length new ≡ max (length old) (position + 1)

-- a label was put where its place word tells, if the word tells a position of one of these links
pub record IsFiled (word : ℕ) (label : ReportLabel) (old new : List (List ReportLabel)) : Type 0 where
  pub same_links : length new ≡ length old
  pub others : (k : ℕ) → (HasPosition word → k ≢ place_word_link word) → slice_get new k ≡ slice_get old k
  pub own : (k : ℕ) (row : List ReportLabel) → HasPosition word → k ≡ place_word_link word → slice_get new k ≡ Some row →
      (before : List ReportLabel) × (slice_get old k ≡ Some before) × IsPutAt (place_word_position word) label before row

-- what the first n place words tell of a link: each of their labels is in its position, and none behind the last position of all
pub record IsRow (words : List PlaceWord) (n link : ℕ) (row : List ReportLabel) : Type 0 where
  pub stands : (number position : ℕ) → number < n → Tells (word_at words number) link position → slice_get row position ≡ Some (label_at number)
  pub reached : (position : ℕ) → position < length row → (number last : ℕ) × (position ≤ last) × Tells (word_at words number) link last

-- and of all links
abbrev pub AreRows : List PlaceWord → ℕ → List (List ReportLabel) → Type 0
AreRows words n rows = (link : ℕ) (row : List ReportLabel) → slice_get rows link ≡ Some row → IsRow words n link row

-- the row of a link
abbrev pub row_at : List (List ReportLabel) → ℕ → List ReportLabel
row_at rows link = unwrap_or (slice_get rows link) []

-- how many of a row's messages are placed
abbrev pub placed_in : List PlaceWord → List ReportLabel → ℕ
placed_in words row = count_by (λ (accepted : ReportLabel). is_placed words (label_of accepted)) row

-- the lines of links of these names, the first of which has number k
abbrev pub rows_text : List OperationPlace → List PlaceWord → List (List ReportLabel) → List (List ℕ) → ℕ → List (List ℕ) → List ℕ
rows_text operations words rows took k [] = []
rows_text operations words rows took k (name ∷ names) =
    link_lines_text operations k name (row_at rows k) (placed_in words (row_at rows k)) (took_at took k) ++ rows_text operations words rows took (k + 1) names

-- the same lines as data
abbrev pub lines_of : List PlaceWord → List (List ReportLabel) → List (List ℕ) → ℕ → List (List ℕ) → List LinkLine
lines_of words rows took k [] = []
lines_of words rows took k (name ∷ names) =
    record { order = map label_of (row_at rows k); placed = placed_in words (row_at rows k); took = took_at took k } ∷ lines_of words rows took (k + 1) names
