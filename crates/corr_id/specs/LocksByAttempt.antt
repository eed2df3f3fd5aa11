-- Locks by the version of an attempt, and by an id's own.
use Rattle.std.specs.Prelude.{◌≡◌, ℕ, ◌+◌, ◌<◌, ◌≤◌, ◌⊎◌, Bool, true, false}
use Rattle.corr_core.specs.IdSlotWord.{Parts}
use Rattle.corr_core.specs.IdSlotLaw.{is_made, is_advance}
use Rattle.corr_core.specs.declared.marks.View.{View}
use Rattle.id_rule.specs.LawfulIdTable.{notes_of}
use Rattle.corr_id.specs.SeatBehindIdCalls.{OutOf}
use Rattle.sock_words.specs.Totals.{total}

-- the word is free, or its range doesn't have the version behind its first one, which is the id itself
abbrev pub LacksAttempt : Parts → ℕ → Type 0
LacksAttempt w v = (w.state ≡ 0) ⊎ ((v ≤ w.first) ⊎ (w.first + w.range ≤ v))

-- the word has no such version: an attempt's, or any of its range
abbrev pub IsOutside : Bool → Parts → ℕ → Type 0
IsOutside true w v = LacksAttempt w v
IsOutside false w v = OutOf w v

-- its range has it; that of an attempt behind its first version
abbrev pub IsWithin : Bool → Parts → ℕ → Type 0
IsWithin true w v = (w.first < v) × (v < w.first + w.range)
IsWithin false w v = (w.first ≤ v) × (v < w.first + w.range)

-- the seat knows of the id that it was made, itself or as one that advanced
abbrev pub IsKnown : {C : Type 0} → ℕ → ℕ → View C → Type 0
IsKnown i f v = (0 < total (is_made f) (notes_of i v.notes)) ⊎ (0 < total (is_advance f) (notes_of i v.notes))
