-- Where each word stands in the table's one list of words.
use Rattle.std.specs.Prelude.{ℕ, ◌+◌, ◌*◌}
use Rattle.sock_words.specs.declared.plain.Plan.{Plan}

-- six words for each slot, of which no step names the last
abbrev pub tag_index : ℕ → ℕ
tag_index i = 6 * i

abbrev pub ref_index : ℕ → ℕ
ref_index i = 6 * i + 1

abbrev pub link_index : ℕ → ℕ
link_index i = 6 * i + 2

abbrev pub head_index : ℕ → ℕ
head_index i = 6 * i + 3

abbrev pub code_index : ℕ → ℕ
code_index i = 6 * i + 4

-- then one for each name, two for each operation, two for each request and eight for each operation
module _ (p : Plan) where
  abbrev pub name_index : ℕ → ℕ
  name_index n = 6 * p.slots + n

  abbrev pub open_index : ℕ → ℕ
  open_index o = 6 * p.slots + p.names + o

  abbrev pub request_index : ℕ → ℕ
  request_index q = 6 * p.slots + p.names + p.operations + q

  abbrev pub next_index : ℕ → ℕ
  next_index q = 6 * p.slots + p.names + p.operations + p.requests + q

  abbrev pub place_index : ℕ → ℕ
  place_index k = 6 * p.slots + p.names + p.operations + p.requests + p.requests + k

  abbrev pub all_words : ℕ
  all_words = 6 * p.slots + p.names + p.operations + p.requests + p.requests + 8 * p.operations
