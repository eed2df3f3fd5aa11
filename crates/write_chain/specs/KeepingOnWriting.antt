-- What keeping on writing comes to.
use Rattle.std.specs.Prelude.{◌≡◌, ◌≢◌, ℕ, ◌<◌, ◌≤◌, ◌==◌, cond, List}
use Rattle.atomic_table.specs.Seated.{TableId}
use Rattle.atomic_table.specs.Table.{Me}
use Rattle.atomic_table.specs.declared.shared.Seat.{Seat}
use Rattle.sock_io.specs.declared.link.Out.{Ghosts}
use Rattle.sock_words.specs.declared.plain.Plan.{Plan}
use Rattle.sock_words.specs.ErrorCodes.{EFAILEDSOCKET}
use Rattle.sock_words.specs.PackedWords.{socket_id_version, socket_id_slot}
use Rattle.sock_model.specs.declared.view.View.{View}
use Rattle.sock_model.specs.MarkWeights.{is_told}
use Rattle.sock_model.specs.SlotRows.{marks_of}
use Rattle.sock_rule.specs.SocketSeatSplits.{IsSeat}
use Rattle.sock_rule.specs.declared.homes.SockHome.{SockHome}
use Rattle.sock_table.specs.declared.refs.SockRef.{SockRef}
use Rattle.write_chain.specs.declared.right.WriteRight.{WriteRight}
use Rattle.write_chain.specs.declared.keep.Went.{Went}
use Rattle.write_chain.specs.declared.keep.Went.TheVariants as went
use Rattle.write_chain.specs.declared.keep.Kept.{Kept}
use Rattle.write_chain.specs.declared.keep.Kept.TheVariants as kept
use Rattle.write_chain.specs.NotingWhileWriting.{Wrote, WroteDrop}
use Rattle.write_chain.specs.WritingRightInHand.{MayGoOn, GaveUp, FoundDead, HasMore}

-- what a message was dropped with: the code word that was read, or EFAILEDSOCKET where that was 0; it is the code that the seat found or stored before
pub record IsCode (code id : ℕ) (v w : View) : Type 0 where
  pub word : ℕ
  pub code_is : code ≡ cond (word == 0) EFAILEDSOCKET word
  pub fits : (1 ≤ code) × (code ≤ 4095)
  pub noted : word ≢ 0 → 0 < marks_of (is_told (socket_id_version id) word) (socket_id_slot id) w
  pub same : (d : ℕ) → d ≢ 0 → 0 < marks_of (is_told (socket_id_version id) d) (socket_id_slot id) v → code ≡ d

abbrev pub WentBy : {O : Type 0} {g : Ghosts O} → Plan → List (List ℕ) → SockRef → Went O g → View → Me (SockHome O g) View → Type 0
WentBy p ways sock (went.Done s) v m = (s ≡ sock) × GaveUp p sock.id.0 m
WentBy p ways sock (went.Dropped r msg code) v m = (r.sock ≡ sock) × MayGoOn p ways r m × FoundDead sock.id.0 m.0 × IsCode code sock.id.0 v m.0
WentBy p ways sock (went.Further r) v m = (r.sock ≡ sock) × MayGoOn p ways r m

-- between two rounds the seat may go on by this right to write the socket
pub record StillWrites {O : Type 0} {g : Ghosts O} (z : TableId) (p : Plan) (ways : List (List ℕ)) (sock : SockRef) (right : WriteRight O g) (s : Seat (SockHome O g) View) : Type 0 where
  pub seat : IsSeat z p s
  pub same : right.sock ≡ sock
  pub may : MayGoOn p ways right s.me

-- the message was dropped
abbrev pub IsDropped : {O : Type 0} {g : Ghosts O} → Went O g → Type 0
IsDropped (went.Dropped r msg code) = Unit {0}
IsDropped other = ⊥

-- or it is there still
abbrev pub LeavesMore : {O : Type 0} {g : Ghosts O} → Went O g → Type 0
LeavesMore (went.Done s) = ⊥
LeavesMore (went.Dropped r msg code) = Unit {0}
LeavesMore (went.Further r) = HasMore r.doing

abbrev pub KeptBy : {O : Type 0} {g : Ghosts O} → Plan → List (List ℕ) → SockRef → Kept O g → View → Me (SockHome O g) View → Type 0
KeptBy p ways sock (kept.Done s) v m = (s ≡ sock) × GaveUp p sock.id.0 m
KeptBy p ways sock (kept.Dropped r msg code) v m = (r.sock ≡ sock) × MayGoOn p ways r m × FoundDead sock.id.0 m.0 × IsCode code sock.id.0 v m.0

-- the seat only wrote, or dropped the message that is told
abbrev pub WentWriting : {O : Type 0} {g : Ghosts O} → Plan → SockRef → Went O g → View → View → Type 0
WentWriting {O} {g} p sock (went.Done s) v w = Wrote g.state sock.id.0 v w
WentWriting {O} {g} p sock (went.Dropped r msg code) v w = WroteDrop g.state p sock.id.0 msg v w
WentWriting {O} {g} p sock (went.Further r) v w = Wrote g.state sock.id.0 v w

abbrev pub KeptWriting : {O : Type 0} {g : Ghosts O} → Plan → SockRef → Kept O g → View → View → Type 0
KeptWriting {O} {g} p sock (kept.Done s) v w = Wrote g.state sock.id.0 v w
KeptWriting {O} {g} p sock (kept.Dropped r msg code) v w = WroteDrop g.state p sock.id.0 msg v w

abbrev pub KeptDropped : {O : Type 0} {g : Ghosts O} → Kept O g → Type 0
KeptDropped (kept.Done s) = ⊥
KeptDropped (kept.Dropped r msg code) = Unit {0}
