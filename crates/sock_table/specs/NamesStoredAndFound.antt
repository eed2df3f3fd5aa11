-- What a seat stores and finds at names and operations.
use Rattle.std.specs.Prelude.{◌≡◌, ℕ, ◌+◌, List, Option, Some, None}
use mathlib.Core.Option.{some}
use lib.ListN.{get_elem?}
use Rattle.sock_words.specs.declared.plain.Plan.{Plan}
use Rattle.sock_words.specs.declared.socket_id.SocketId.{SocketId}
use Rattle.sock_words.specs.PackedWords.{socket_id_version, socket_id_slot, NO_SOCKET}
use Rattle.sock_model.specs.declared.view.View.{View}
use Rattle.sock_model.specs.declared.view.StoredWord.{StoredWord}
use Rattle.sock_model.specs.SocketTableLayout.{name_index, open_index}
use Rattle.sock_model.specs.SlotRows.{met}
use Rattle.sock_rule.specs.NotesBesideRows.{Knows, IsHistory, finding}
pub use Rattle.sock_rule.specs.NotesBesideRows.{NotedBy}
use Rattle.sock_table.specs.declared.finding.Noted.{Noted}
use Rattle.sock_table.specs.declared.finding.Noted.TheVariants as noted

-- the seat stored or found a word other than 0 at this place
abbrev pub HasSeen : ℕ → View → Type 0
HasSeen x v = (k : ℕ) × (get_elem? v.found k ≡ some x)

-- the step read the word of this id at the place x: from then on the seat knows it, and has seen the place
abbrev pub finding_id : ℕ → ℕ → List StoredWord → View → View
finding_id x id all v = finding x (id + 1) all (met (socket_id_slot id) (socket_id_version id) v)

-- the id is the last that was stored at the place x, of all that was stored by then, behind which stands all that the seat met before: so none that it found there earlier, unless it was stored once more
pub record FindsId (x id : ℕ) (v w : View) : Type 0 where
  pub all : List StoredWord
  pub view : w ≡ finding_id x id all v
  pub history : IsHistory x (id + 1) v all

-- the same of an operation that got no socket
pub record FindsNothing (x : ℕ) (v w : View) : Type 0 where
  pub all : List StoredWord
  pub view : w ≡ finding x NO_SOCKET all v
  pub history : IsHistory x NO_SOCKET v all

-- what a step read under a name: the id that stands there now, or 0, which a seat reads only where it hasn't seen another word
abbrev pub Found : Plan → ℕ → Option SocketId → View → View → Type 0
Found p n (Some id) v w = Knows p w id.0 × FindsId (name_index p n) id.0 v w
Found p n None v w = (w ≡ v) × ¬ HasSeen (name_index p n) v

-- what it reads at an operation
abbrev pub NotedAs : Plan → ℕ → Noted → View → View → Type 0
NotedAs p o noted.NotYet v w = (w ≡ v) × ¬ HasSeen (open_index p o) v
NotedAs p o noted.Nothing v w = FindsNothing (open_index p o) v w
NotedAs p o (noted.Id id) v w = Knows p w id.0 × FindsId (open_index p o) id.0 v w
