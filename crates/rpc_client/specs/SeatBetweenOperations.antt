-- What a client's seat has between two operations.
use Rattle.std.specs.Prelude.{◌≡◌, ℕ, ◌+◌, ◌<◌, []}
use Rattle.atomic_table.specs.Seated.{TableId}
use Rattle.atomic_table.specs.declared.shared.Seat.{Seat}
use Rattle.sock_words.specs.declared.plain.Plan.{Plan}
use Rattle.sock_words.specs.PackedWords.{socket_id_version, socket_id_slot}
use Rattle.sock_model.specs.declared.view.View.{View}
use Rattle.sock_model.specs.MarkWeights.{only, pair, is_ref, is_hold}
use Rattle.sock_model.specs.SlotRows.{marks_of}
use Rattle.sock_rule.specs.SocketSeatSplits.{IsSeat}
use Rattle.sock_table.specs.ReferenceCalls.{IsBetween}
use Rattle.sock_table.specs.NamesStoredAndFound.{HasSeen}

-- a seat of the table that has references and notes alone: no right, no message, and nothing of a home
pub record Idle {S : Type 0} (z : TableId) (p : Plan) (s : Seat S View) : Type 0 where
  pub seat : IsSeat z p s
  pub slots : s.me.1 ≡ []
  pub between : IsBetween p s.me.0
  pub claims : s.me.0.claims ≡ []
  pub loose : s.me.0.loose ≡ []

-- and may take one reference more
pub record MayAct {S : Type 0} (z : TableId) (p : Plan) (s : Seat S View) : Type 0 where
  pub idle : Idle z p s
  pub room : (i : ℕ) → i < p.slots → marks_of is_ref i s.me.0 < 65536

-- behind an operation it is idle again, and stands for as many seats
pub record AtRest {S : Type 0} (z : TableId) (p : Plan) (s t : Seat S View) : Type 0 where
  pub idle : Idle z p t
  pub share : t.me.0.share ≡ s.me.0.share

-- while it only waits, it is idle, and has and notes what it did
pub record StillIdle {S : Type 0} (z : TableId) (p : Plan) (s t : Seat S View) : Type 0 where
  pub idle : Idle z p t
  pub same : t.me ≡ s.me

-- what was found or stored other than 0 is known as such still
abbrev pub StaysSeen : View → View → Type 0
StaysSeen v w = (x : ℕ) → HasSeen x v → HasSeen x w

-- the same references, to the same lives
pub record SameRefs (v w : View) : Type 0 where
  pub refs : (i : ℕ) → marks_of is_ref i w ≡ marks_of is_ref i v
  pub lives : (i h : ℕ) → marks_of (is_hold h) i w ≡ marks_of (is_hold h) i v

-- one reference more, to the life of this id
pub record OneMore (id : ℕ) (v w : View) : Type 0 where
  pub refs : (i : ℕ) → marks_of is_ref i w ≡ marks_of is_ref i v + only i (socket_id_slot id)
  pub lives : (i h : ℕ) → marks_of (is_hold h) i w ≡ marks_of (is_hold h) i v + pair i h (socket_id_slot id) (socket_id_version id)
