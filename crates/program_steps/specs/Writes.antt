-- What the view of whoever writes a link says before a move or a put, and at the head of each loop.
use Rattle.std.specs.Prelude.{ℕ, ◌≡◌, ◌≢◌, ◌*◌, ◌<◌, Bool, true, false, List, [], ◌∷◌, ◌++◌, drop}
use Rattle.std.specs.List.{AllByRecursion}
use Rattle.sock_words.specs.PackedWords.{socket_id_version, socket_id_slot, ticket_request}
use Rattle.sock_words.specs.declared.plain.Plan.{Plan}
use Rattle.sock_model.specs.declared.chain.Heading.{Heading}
use Rattle.sock_model.specs.declared.chain.Right.{Right}
use Rattle.sock_model.specs.declared.chain.Stage.{Stage}
use Rattle.sock_model.specs.declared.chain.Stage.TheVariants as stages
use Rattle.sock_model.specs.declared.marks.Mark.{Mark}
use Rattle.sock_model.specs.declared.marks.Mark.TheVariants.{Saw, Failer, Stored, Told, Met}
use Rattle.sock_model.specs.declared.marks.SlotMark.{SlotMark}
use Rattle.sock_model.specs.declared.view.View.{View}
use Rattle.sock_model.specs.MarkWeights.{is_ref, is_probe, is_any_coding}
use Rattle.sock_model.specs.SlotRows.{marks_of}
use Rattle.sock_model.specs.LinksInSlots.{HoldsLink}
use Rattle.seat_programs.specs.Writings.{Holder, Writing, Puts, Waits, Empties, Reversing}

-- ## Before a move or a put

-- its one right is at a message that is not in hand, that of request q, and the link took nothing since one last got its place
abbrev pub MayTakeMessage : View → ℕ → Type 0
MayTakeMessage v q = (r : Right) × (now : ℕ) × (v.rights ≡ r ∷ []) × (r.stage ≡ stages.Writes now) × (r.taken ≡ false) × (ticket_request now ≡ q) × (r.put ≡ 0)

-- its one right is to write link k, which is at home or in hand
abbrev pub Writes : View → ℕ → Bool → Right → Type 0
Writes v k at_home r = (v.rights ≡ r ∷ []) × (r.link ≡ k) × (r.at_home ≡ at_home) × (v.hands ≡ [])

-- the bytes are some of the message in hand, behind those that the link took, and the look before found the socket live
abbrev pub MayPut : View → ℕ → List ℕ → Type 0
MayPut v k bytes = (r : Right) × Writes v k false r × (r.taken ≡ true) × (r.clean ≡ true) × (bytes ≢ []) × ((rest : List ℕ) × (drop r.put r.bytes ≡ bytes ++ rest))

-- ## The head of a loop

-- the seat holds the life, once or more, and has nothing to take back in its slot, and it has the one right, to write the life's link
pub record IsHolder (p : Plan) (v : View) (h : Holder) (r : Right) : Type 0 where
  pub one : v.rights ≡ r ∷ []
  pub claims : v.claims ≡ []
  pub loose : v.loose ≡ []
  pub hands : v.hands ≡ []
  pub link : r.link ≡ h.link
  pub last : r.last ≡ h.last
  pub places : r.places ≡ h.places
  pub away : r.at_home ≡ false
  pub holds : HoldsLink p v (socket_id_slot h.id) (socket_id_version h.id) h.link
  pub room : marks_of is_ref (socket_id_slot h.id) v < 65540
  pub no_probe : marks_of is_probe (socket_id_slot h.id) v ≡ 0
  pub no_coding : marks_of is_any_coding (socket_id_slot h.id) v ≡ 0

-- the message of ticket `now` is in hand; the link took so many bytes of it, and this is left
pub record HasMessage (p : Plan) (r : Right) (now : ℕ) (heading : Heading) (left : List ℕ) (taken : ℕ) : Type 0 where
  pub stage : r.stage ≡ stages.Writes now
  pub in_hand : r.taken ≡ true
  pub heading_is : r.heading ≡ heading
  pub put : r.put ≡ taken
  pub left_is : drop r.put r.bytes ≡ left
  pub some_left : left ≢ []
  -- where the link took some of it, the last look found the socket live
  pub clean : 0 < taken → r.clean ≡ true
  pub label_in : heading.label.place < 8 * p.operations

-- the right is at this stage, and no message is in hand
pub record IsBetween (r : Right) (stage : Stage) : Type 0 where
  pub stage_is : r.stage ≡ stage
  pub none_ : r.taken ≡ false
  pub put : r.put ≡ 0

abbrev pub AtHead : Plan → Right → Writing → Type 0
AtHead p r (Puts h now heading left taken asked) = HasMessage p r now heading left taken
AtHead p r (Waits h now heading left taken) = HasMessage p r now heading left taken
AtHead p r (Empties h) = IsBetween r stages.Empties
AtHead p r (Reversing h top at after) = IsBetween r (stages.Reversing top at after)

abbrev pub holder_of : Writing → Holder
holder_of (Puts h now heading left taken asked) = h
holder_of (Waits h now heading left taken) = h
holder_of (Empties h) = h
holder_of (Reversing h top at after) = h

-- the seat may begin a round from here
abbrev pub At : Plan → View → Writing → Type 0
At p v w = (r : Right) × IsHolder p v (holder_of w) r × AtHead p r w

-- ## Behind the loops

-- what a writer notes of its slot
abbrev pub IsNote : Mark → Type 0
IsNote (Saw w) = Unit {0}
IsNote (Failer h) = Unit {0}
IsNote (Stored h c) = Unit {0}
IsNote (Told h c) = Unit {0}
IsNote (Met h k) = Unit {0}
IsNote other = ⊥

abbrev pub AreNotes : List SlotMark → Type 0
AreNotes notes = AllByRecursion (λ (m : SlotMark). IsNote m.mark) notes

-- the seat has no right any more, and is else as before but for these notes
abbrev pub behind : List SlotMark → View → View
behind notes v = record v { marks = notes ++ v.marks; rights = [] }
