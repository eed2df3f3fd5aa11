-- The words of the table of the sockets, by what they are, and where each stands in the list of words.
use Rattle.std.specs.Prelude.{ℕ, ◌*◌, ◌<◌}
use mathlib.Core.Option.{Option, none, some}
use Rattle.sock_model.specs.sock_words.specs.declared.plain.Plan.{Plan}
use Rattle.sock_model.specs.SocketTableLayout.{tag_index, ref_index, link_index, head_index, code_index, name_index, open_index, request_index, next_index, place_index}

pub data TableWord : Type 0 where
  -- of a slot: its tag, its version and references, its link, its head, its error code
  TagOf : ℕ → TableWord
  RefOf : ℕ → TableWord
  LinkOf : ℕ → TableWord
  HeadOf : ℕ → TableWord
  CodeOf : ℕ → TableWord
  -- of a name, and of an operation
  NameOf : ℕ → TableWord
  OpenOf : ℕ → TableWord
  -- of a request: its generation, and the ticket that it is connected to
  RequestOf : ℕ → TableWord
  NextOf : ℕ → TableWord
  -- of a message, by its number: its place
  PlaceOf : ℕ → TableWord

abbrev pub index_in : Plan → TableWord → ℕ
index_in p (TagOf i) = tag_index i
index_in p (RefOf i) = ref_index i
index_in p (LinkOf i) = link_index i
index_in p (HeadOf i) = head_index i
index_in p (CodeOf i) = code_index i
index_in p (NameOf n) = name_index p n
index_in p (OpenOf o) = open_index p o
index_in p (RequestOf q) = request_index p q
index_in p (NextOf q) = next_index p q
index_in p (PlaceOf l) = place_index p l

abbrev pub index_of : Plan → Option TableWord → Option ℕ
index_of p none = none
index_of p (some w) = some (index_in p w)

-- it is one of the table
abbrev pub IsIn : Plan → TableWord → Type 0
IsIn p (NameOf n) = n < p.names
IsIn p (OpenOf o) = o < p.operations
IsIn p (RequestOf q) = q < p.requests
IsIn p (NextOf q) = q < p.requests
IsIn p (PlaceOf l) = l < 8 * p.operations
IsIn p (TagOf i) = i < p.slots
IsIn p (RefOf i) = i < p.slots
IsIn p (LinkOf i) = i < p.slots
IsIn p (HeadOf i) = i < p.slots
IsIn p (CodeOf i) = i < p.slots
