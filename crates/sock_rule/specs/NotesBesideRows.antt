-- What a step on a table notes beside what the rows of the sockets say.
use Rattle.std.specs.Prelude.{◌≡◌, ℕ, ◌+◌, ◌-◌, ◌<◌, ◌==◌, cond, List, ◌∷◌, Option, Some, None}
use mathlib.Core.Option.{some}
use lib.ListN.{get_elem?}
use Rattle.atomic_table.specs.Table.{Me}
use Rattle.sock_words.specs.declared.plain.Plan.{Plan}
use Rattle.sock_words.specs.declared.socket_id.SocketId.{SocketId}
use Rattle.sock_words.specs.PackedWords.{socket_id_version, socket_id_slot, NO_SOCKET}
use Rattle.sock_model.specs.declared.chain.Heading.{Heading}
use Rattle.sock_model.specs.declared.view.View.{View}
use Rattle.sock_model.specs.declared.view.StoredWord.{StoredWord}
use Rattle.sock_model.specs.SocketTableLayout.{open_index}
use Rattle.sock_model.specs.Marks.{latest}
use Rattle.sock_rule.specs.OnTable.{Follows}
use Rattle.sock_model.specs.SlotRows.{marks_of, met, wrote}
use Rattle.sock_model.specs.MarkWeights.{is_known}
use Rattle.sock_model.specs.Rule.{noting}

-- of all that was stored by then, the word is the last for the place x, and behind it stands all that this seat had met before
pub record IsHistory (x word : ℕ) (v : View) (all : List StoredWord) : Type 0 where
  pub last : latest x all ≡ word
  pub later : (n : ℕ) (h : List StoredWord) → get_elem? v.histories n ≡ some h → Follows all h

-- this word other than 0 was found at the place x
abbrev pub finding : ℕ → ℕ → List StoredWord → View → View
finding x word all v = record (noting x v) { finds = record { place = x; word = word } ∷ v.finds; histories = all ∷ v.histories }

-- S7: the id that a word names is known then
abbrev pub found_at : ℕ → ℕ → List StoredWord → View → View
found_at x word all v = cond (word == 0) v (cond (word == NO_SOCKET) (finding x word all v) (finding x word all (met (socket_id_slot (word - 1)) (socket_id_version (word - 1)) v)))

-- S6: the word stands there, and stays other than 0
abbrev pub put_at : ℕ → ℕ → List StoredWord → View → View
put_at x word all v = record (noting x (wrote x word v)) { histories = all ∷ v.histories }

-- P1 with the dropped bit: the seat notes the word, and what stands with the message in hand
abbrev pub dropped_at : ℕ → ℕ → Heading → View → View
dropped_at x word h v = record (wrote x word v) { drops = h ∷ v.drops }

-- what S7 leaves, and S6, with all that was stored by then
pub record FoundAt {S : Type 0} (x word : ℕ) (m n : Me S View) : Type 0 where
  pub all : List StoredWord
  pub view : n ≡ (found_at x word all m.0, m.1)
  pub history : IsHistory x word m.0 all

pub record PutAt {S : Type 0} (x word : ℕ) (m n : Me S View) : Type 0 where
  pub all : List StoredWord
  pub view : n ≡ (put_at x word all m.0, m.1)
  pub history : IsHistory x word m.0 all

-- the id is of a slot of the table, and the seat knows its life
pub record Knows (p : Plan) (v : View) (id : ℕ) : Type 0 where
  pub inside : socket_id_slot id < p.slots
  pub known : 0 < marks_of (is_known (socket_id_version id)) (socket_id_slot id) v

-- what it stores at an operation: the id of its socket, or that it got none
abbrev pub NotedBy : {S : Type 0} → Plan → ℕ → Option SocketId → Me S View → Me S View → Type 0
NotedBy {S} p o (Some id) m n = PutAt (open_index p o) (id.0 + 1) m n
NotedBy {S} p o None m n = PutAt (open_index p o) NO_SOCKET m n
