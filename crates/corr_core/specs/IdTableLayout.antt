-- Where each word stands in the one list of words of the table of call ids.
use Rattle.std.specs.Prelude.{ℕ, ◌+◌, ◌*◌}
use Rattle.corr_core.specs.declared.marks.Plan.{Plan}

-- two words for each slot
abbrev pub tag_index : ℕ → ℕ
tag_index i = 2 * i

abbrev pub id_index : ℕ → ℕ
id_index i = 2 * i + 1

-- then two for each operation: the id of its call, and where the call's current attempt went
abbrev pub call_index : Plan → ℕ → ℕ
call_index p o = 2 * p.slots + 2 * o

abbrev pub at_index : Plan → ℕ → ℕ
at_index p o = 2 * p.slots + 2 * o + 1

abbrev pub all_words : Plan → ℕ
all_words p = 2 * p.slots + 2 * p.operations
