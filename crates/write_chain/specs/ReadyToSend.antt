-- What a seat has that sends messages, one after another.
use Rattle.std.specs.Prelude.{◌≡◌, ℕ, ◌<◌, []}
use Rattle.atomic_table.specs.Seated.{TableId}
use Rattle.atomic_table.specs.declared.shared.Seat.{Seat}
use Rattle.sock_io.specs.declared.link.Out.{Ghosts}
use Rattle.sock_words.specs.declared.plain.Plan.{Plan}
use Rattle.sock_words.specs.PackedWords.{socket_id_slot}
use Rattle.sock_model.specs.declared.view.View.{View}
use Rattle.sock_model.specs.SlotRows.{marks_of}
use Rattle.sock_model.specs.MarkWeights.{only, is_ref}
use Rattle.sock_table.specs.ClosedSocketTable.{IsDoneSeat}
use Rattle.sock_table.specs.ReferenceCalls.{Knows}
use Rattle.sock_table.specs.declared.refs.SockRef.{SockRef}
use Rattle.write_chain.specs.SendingIntoChain.{HasRoom}
use Rattle.write_chain.specs.declared.entry.Started.{Started}
use Rattle.write_chain.specs.declared.entry.Started.TheVariants as started
use Rattle.write_chain.specs.declared.entry.Refused.{Refused}
use Rattle.write_chain.specs.declared.entry.Refused.TheVariants as refused

-- the reference of a message that was accepted
abbrev pub sock_of : {O : Type 0} {g : Ghosts O} → Started O g → SockRef
sock_of (started.Queued sock) = sock
sock_of (started.Right right) = right.sock

-- and of one that was refused
abbrev pub refused_of : Refused → SockRef
refused_of (refused.Failed sock msg found) = sock
refused_of (refused.Full sock msg) = sock

-- a seat that holds nothing, and stands for itself alone
abbrev pub IsSpent : {S : Type 0} → TableId → Plan → Seat S View → Type 0
IsSpent z p s = IsDoneSeat z p s × (s.me.0.share ≡ 1)

-- and has room for a message
pub record IsFree {S : Type 0} (z : TableId) (p : Plan) (s : Seat S View) : Type 0 where
  pub done : IsDoneSeat z p s
  pub share : s.me.0.share ≡ 1
  pub room : HasRoom s.me.0

-- between two messages it knows the socket besides
pub record IsReady {S : Type 0} (z : TableId) (p : Plan) (id : ℕ) (s : Seat S View) : Type 0 where
  pub done : IsDoneSeat z p s
  pub known : Knows p s.me.0 id
  pub share : s.me.0.share ≡ 1
  pub room : HasRoom s.me.0

-- while one is sent: it has one reference to the life of this id, and no other; no claim, and no entry that isn't connected
pub record HoldsOne (p : Plan) (id : ℕ) (v : View) : Type 0 where
  pub claims : v.claims ≡ []
  pub loose : v.loose ≡ []
  pub refs : (j : ℕ) → j < p.slots → marks_of is_ref j v ≡ only (socket_id_slot id) j
  pub known : Knows p v id
  pub share : v.share ≡ 1
