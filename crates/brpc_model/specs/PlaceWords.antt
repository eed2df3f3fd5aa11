-- The report of a run with messages, by what its clients said, the place words that it leaves, and what its links took.
use Rattle.std.specs.Prelude.{ℕ, ◌≡◌, ◌<◌, ◌+◌, ◌*◌, ◌⊎◌, ◌↔◌, if◌then◌else◌, Bool, not, List, [], ◌∷◌, length, count_by, slice_get, unwrap_or, option_map, Option, Some, None, IfSome}
use Rattle.sock_words.specs.declared.outcome.Outcome.{Outcome}
use Rattle.sock_words.specs.declared.outcome.Outcome.TheVariants.{Placed, Dropped}
use Rattle.sock_words.specs.declared.place_word.PlaceWord.{PlaceWord}
use Rattle.sock_words.specs.PackedWords.{no_place, HasPosition, place_word_dropped, place_word_link, place_word_position}
use Rattle.brpc_model.specs.Items.{Item}
use Rattle.brpc_model.specs.ReturnedLink.{LinkEnd}
use Rattle.brpc_model.specs.Operations.{Label, link_names}
use Rattle.brpc_model.specs.Report.{LinkLine, Report, report_text}

-- ## Where a label stands

-- the place word of this number; behind the last one none was accepted
abbrev pub word_at : List PlaceWord → ℕ → ℕ
word_at words number = unwrap_or (option_map (λ (word : PlaceWord). word.0) (slice_get words number)) no_place

-- the place word of a label: each operation has eight, one for each attempt
abbrev pub word_of : List PlaceWord → Label → ℕ
word_of words label = word_at words (8 * label.operation + label.attempt)

-- a place word tells this position of this link
pub record Tells (word link position : ℕ) : Type 0 where
  pub accepted : HasPosition word
  pub link_is : place_word_link word ≡ link
  pub position_is : place_word_position word ≡ position

-- a label stands at this position of this link: its place word tells so
pub record StandsAt (words : List PlaceWord) (label : Label) (link position : ℕ) : Type 0 where
  pub attempt : label.attempt < 8
  pub told : Tells (word_of words label) link position

-- the order of a link: at each position the label that stands there, and no more labels
abbrev pub IsOrder : List PlaceWord → ℕ → List Label → Type 0
IsOrder words link order = (position : ℕ) (label : Label) → (slice_get order position ≡ Some label) ↔ StandsAt words label link position

-- the label's message wasn't dropped
abbrev pub is_placed : List PlaceWord → Label → Bool
is_placed words label = not (place_word_dropped (word_of words label))

-- ## What a run leaves

-- the place words that a run leaves
pub record ArePlaces (words : List PlaceWord) : Type 0 where
  -- each tells a position, or that its label was never accepted
  pub tell : (number : ℕ) → (word_at words number ≡ no_place) ⊎ HasPosition (word_at words number)
  -- no two labels stand at one position of a link
  pub once : (a b : Label) (link position : ℕ) → StandsAt words a link position → StandsAt words b link position → a ≡ b
  -- and there is no gap: below the position of a label others stand
  pub no_gap : (a : Label) (link position lower : ℕ) → StandsAt words a link position → lower < position → (b : Label) × StandsAt words b link lower

-- each operation of which nothing was said has a message that was accepted
abbrev pub HasEachOutcome : List PlaceWord → List (Option Outcome) → Type 0
HasEachOutcome words said = (operation : ℕ) → slice_get said operation ≡ Some None → HasPosition (word_at words (8 * operation))

-- ## The report

-- the outcome of a message that was accepted
abbrev pub outcome_by_word : ℕ → Outcome
outcome_by_word word = if place_word_dropped word then Dropped (place_word_link word) (place_word_position word) else Placed (place_word_link word) (place_word_position word)

-- the outcome of an operation: that which was said, or else that of its message
abbrev pub outcome_of : List PlaceWord → ℕ → Option Outcome → Outcome
outcome_of words operation said = unwrap_or said (outcome_by_word (word_at words (8 * operation)))

-- the outcomes of all operations from this one on
abbrev pub outcomes_from : List PlaceWord → ℕ → List (Option Outcome) → List Outcome
outcomes_from words operation [] = []
outcomes_from words operation (said ∷ later) = outcome_of words operation said ∷ outcomes_from words (operation + 1) later

-- what a link took, where that is given
abbrev pub took_at : List (List ℕ) → ℕ → List ℕ
took_at took link = unwrap_or (slice_get took link) []

-- what is said of each link that tells what it took is what it tells
abbrev pub AreTold : List LinkEnd → List (List ℕ) → Type 0
AreTold ends took = (k : ℕ) (e : LinkEnd) → slice_get ends k ≡ Some e → IfSome e.took (λ bytes. took_at took k ≡ bytes)

-- what is reported of a link that took these bytes
pub record IsLineOf (words : List PlaceWord) (link : ℕ) (bytes : List ℕ) (line : LinkLine) : Type 0 where
  pub order : IsOrder words link line.order
  pub placed : line.placed ≡ count_by (is_placed words) line.order
  pub took : line.took ≡ bytes

-- the report that these tell
pub record IsReportOf (script : List Item) (said : List (Option Outcome)) (words : List PlaceWord) (took : List (List ℕ)) (report : Report) : Type 0 where
  pub outcomes : report.outcomes ≡ outcomes_from words 0 said
  pub line_each : length report.links ≡ length (link_names script)
  pub links : (k : ℕ) (line : LinkLine) → slice_get report.links k ≡ Some line → IsLineOf words k (took_at took k) line

-- its text
pub record IsReportText (script : List Item) (said : List (Option Outcome)) (words : List PlaceWord) (took : List (List ℕ)) (text : List ℕ) : Type 0 where
  pub report : Report
  pub told : IsReportOf script said words took report
  pub is_text : text ≡ report_text script report
