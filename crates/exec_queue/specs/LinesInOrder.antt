-- The order of lines, as the place words tell it.
use Rattle.std.specs.Prelude.{ℕ, ◌≡◌, ◌≢◌, ◌*◌, ◌<◌, ◌≤◌, nat_le, suc, List, length}
use mathlib.Core.Option.{some}
use lib.ListN.{get_elem?}
use Rattle.brpc_model.specs.PlaceWords.{word_at}
use Rattle.sock_words.specs.declared.place_word.PlaceWord.{PlaceWord}
use Rattle.sock_words.specs.PackedWords.{no_place, place_word}

-- the place word of a line, counted from 0: the first of the eight of its operation
abbrev pub line_word : List PlaceWord → ℕ → ℕ
line_word words line = word_at words (8 * line)

-- these lines, counted from 1, stand at their positions, with the dropped bit behind the first `kept`; and no other line has a position
pub record AreLinesOf (words : List PlaceWord) (count : ℕ) (lines : List ℕ) (kept : ℕ) : Type 0 where
  pub few : kept ≤ length lines
  pub long : length lines ≤ count
  pub placed : (i l : ℕ) → get_elem? lines i ≡ some (suc l) → line_word words l ≡ place_word (nat_le kept i) 0 i
  pub counted : (i line : ℕ) → get_elem? lines i ≡ some line → (0 < line) × (line ≤ count)
  pub each : (l : ℕ) → l < count → line_word words l ≢ no_place → (i : ℕ) × (get_elem? lines i ≡ some (suc l))
