-- Which versions the range of an id has, by the word of its slot.
use Rattle.std.specs.Prelude.{ℕ, ◌+◌, ◌==◌, ◌&&◌, not, Bool, nat_lt, nat_le, if◌then◌else◌}
use Rattle.corr_core.specs.IdSlotWord.{Parts}

-- the range in the slot has this version behind its first
abbrev pub has_version : ℕ → Parts → Bool
has_version v w = not (w.state == 0) && (nat_lt w.first v && nat_lt v (w.first + w.range))

-- by this word a response of a version past all ranges made so far is kept
abbrev pub is_early : ℕ → Parts → Bool
is_early v w = if w.state == 0 then nat_le w.first v else nat_le (w.first + w.range) v
