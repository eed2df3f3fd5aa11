-- What becomes of a number that is addressed, whatever it is.
use Rattle.std.specs.Prelude.{◌≡◌, ◌≢◌, ℕ, ◌+◌, ◌<◌, ◌≤◌, ◌⊎◌, Some, None}
use Rattle.atomic_table.specs.Table.{Me}
use Rattle.sock_words.specs.declared.plain.Plan.{Plan}
use Rattle.sock_words.specs.declared.socket_id.SocketId.{SocketId}
use Rattle.sock_words.specs.PackedWords.{socket_id_slot}
use Rattle.sock_model.specs.declared.view.View.{View}
use Rattle.sock_model.specs.SocketTableLayout.{name_index}
use Rattle.sock_rule.specs.NotesBesideRows.{PutAt}
use Rattle.sock_table.specs.LinkPasses.{Created}
use Rattle.sock_table.specs.ReferenceCalls.{Knows}
use Rattle.sock_table.specs.ReferenceAnswers.{Held, GoneFrom, NoneLater}
use Rattle.sock_table.specs.NamesStoredAndFound.{Found}
use Rattle.any_id.specs.declared.addressing.NoSocket.{NoSocket}
use Rattle.any_id.specs.declared.addressing.NoSocket.TheVariants as no

-- the life of this id was born, and then its id stored under its slot's name
pub record MadeAndNamed {S : Type 0} (p : Plan) (id k : ℕ) (m n : Me S View) : Type 0 where
  pub inside : socket_id_slot id < p.slots
  pub born : Me S View
  pub created : Created id k m.0 born.0
  pub named : PutAt (name_index p (socket_id_slot id)) (id + 1) born n

-- the number stands under its slot's name, so it is the id of a life that was born; the seat has one more reference to just that life, and saw no later version of its slot
pub record Addressed (p : Plan) (id : ℕ) (v w : View) : Type 0 where
  pub inside : socket_id_slot id < p.slots
  pub between : View
  pub found : Found p (socket_id_slot id) (Some record { 0 = id }) v between
  pub held : Held id between w
  pub stays : NoneLater id between

-- another id stands there, or none
pub record OtherStands (p : Plan) (id : ℕ) (v w : View) : Type 0 where
  pub inside : socket_id_slot id < p.slots
  pub other : SocketId
  pub differs : other.0 ≢ id
  pub found : Found p (socket_id_slot id) (Some other) v w

-- there is no such slot, or it has no such socket; or it had, and the seat has as many references as before
abbrev pub NotAddressed : Plan → ℕ → NoSocket → View → View → Type 0
NotAddressed p id no.Foreign v w = ((p.slots ≤ socket_id_slot id) × (w ≡ v)) ⊎ (((socket_id_slot id < p.slots) × Found p (socket_id_slot id) None v w) ⊎ OtherStands p id v w)
NotAddressed p id (no.Gone word) v w = (between : View) × Found p (socket_id_slot id) (Some record { 0 = id }) v between × GoneFrom id word.0 between w
