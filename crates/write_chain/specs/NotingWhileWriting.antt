-- What a seat notes of a life while it writes its link.
use Rattle.std.specs.Prelude.{◌≡◌, ℕ, ◌+◌, ◌<◌, true, false, List, [], ◌∷◌, ◌++◌}
use Rattle.message_parts.specs.Parcels.{outgoing_of}
use Rattle.sock_model.specs.declared.chain.Right.{Right}
use Rattle.sock_rule.specs.HoldingWriteRight.{Rights}
use Rattle.sock_io.specs.LinkHalves.{OutState}
use Rattle.sock_io.specs.FaultCauses.{Rose}
use Rattle.sock_words.specs.declared.plain.Plan.{Plan}
use Rattle.sock_words.specs.ErrorCodes.{EFAILEDSOCKET}
use Rattle.sock_words.specs.PackedWords.{socket_id_version, socket_id_slot, place_word}
use Rattle.sock_model.specs.declared.marks.Mark.{Mark}
use Rattle.sock_model.specs.declared.marks.Mark.TheVariants.{Saw, Failer, Stored, Told, Met}
use Rattle.sock_model.specs.declared.chain.Heading.{Heading}
use Rattle.sock_model.specs.declared.view.View.{View}
use Rattle.write_chain.specs.declared.right.Undelivered.{Undelivered}
use Rattle.sock_model.specs.MarkWeights.{is_met}
use Rattle.sock_model.specs.SocketTableLayout.{place_index}
use Rattle.sock_model.specs.Marks.{noted}
use Rattle.sock_model.specs.SlotRows.{marks_of}
use Rattle.sock_rule.specs.MarksComeAndGo.{Became}
use Rattle.sock_rule.specs.LinkFaultNotes.{fault}

-- a version of the slot, the link of the life h, its code, or that the half of a link has a fault
pub data IsFinding (h : ℕ) : Mark → Type 0 where
  saw : (w : ℕ) → IsFinding h (Saw w)
  met : (k : ℕ) → IsFinding h (Met h k)
  told : (c : ℕ) → IsFinding h (Told h c)
  faulted : (k : ℕ) → IsFinding h (fault k)

-- the count of faults of the writing half of link k rose by a call before which it wasn't finished
pub record Faulted {O : Type 0} (state : O → OutState) (k : ℕ) : Type 0 where
  pub before : O
  pub after : O
  pub link_before : (state before).link ≡ k
  pub link_after : (state after).link ≡ k
  pub unfinished : (state before).finished ≡ false
  pub rose : Rose (state before).faults (state after).faults

-- the seat failed the life only where a fault of its link came, which it noted
pub data Noted {O : Type 0} (state : O → OutState) (IsLink : ℕ → Type 0) (h : ℕ) : List Mark → Type 0 where
  nothing : Noted state IsLink h []
  finding : (m : Mark) (ms : List Mark) → IsFinding h m → Noted state IsLink h ms → Noted state IsLink h (m ∷ ms)
  failing : (k : ℕ) (ms : List Mark) → IsLink k → Faulted state k → Noted state IsLink h ms → Noted state IsLink h (fault k ∷ Failer h ∷ Saw (h + 1) ∷ Stored h EFAILEDSOCKET ∷ Told h EFAILEDSOCKET ∷ ms)

-- the seat found that the link of this life is k
abbrev pub Met_by : ℕ → View → ℕ → Type 0
Met_by id v k = 0 < marks_of (is_met (socket_id_version id) k) (socket_id_slot id) v

-- a seat that writes the link of the life of this id has such notes more; its rights may be others, and all else is as it was
pub record Wrote {O : Type 0} (state : O → OutState) (id : ℕ) (v w : View) : Type 0 where
  pub notes : List Mark
  pub noted : Noted state (Met_by id w) (socket_id_version id) notes
  pub became : Became (socket_id_slot id) v (record w { rights = v.rights }) notes []

-- the seat's one right tells still which message it had taken, and what the link had taken by then
abbrev pub KeepsMessage : View → View → Type 0
KeepsMessage v w = (r : Right) → Rights r v → (x : Right) × Rights x w × (x.heading ≡ r.heading) × (x.bytes ≡ r.bytes) × (x.sent ≡ r.sent)

-- a seat dropped this message, of the link of the life of this id: it stored the word of its place index with the dropped bit, and noted that, and what stands with the message; beside that it only wrote. Its right has the accepted message still, whose label and owner these are, and whose bytes are those that the link took of it last, and those that are left.
pub record WroteDrop {O : Type 0} (state : O → OutState) (p : Plan) (id : ℕ) (msg : Undelivered) (v w : View) : Type 0 where
  pub link : ℕ
  pub position : ℕ
  -- so the word tells its link
  pub low : position < 4294967295
  pub met : Met_by id w link
  pub stores : w.stores ≡ noted record { place = place_index p msg.label.place; word = place_word true link position } v.stores
  pub heading : Heading
  pub drops : w.drops ≡ heading ∷ v.drops
  pub label_is : heading.label ≡ msg.label
  pub owner_is : heading.owner ≡ msg.owner
  pub right : Right
  pub one : Rights right w
  pub heading_is : right.heading ≡ heading
  pub before : List ℕ
  pub begun : List ℕ
  pub sent : right.sent ≡ before ++ begun
  pub bytes : right.bytes ≡ begun ++ (outgoing_of msg.left).left
  pub wrote : Wrote state id v (record w { stores = v.stores; drops = v.drops })
