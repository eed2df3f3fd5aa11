-- What a seat has between two calls, and what the calls on references leave.
use Rattle.std.specs.Prelude.{◌≡◌, ℕ, ◌+◌, ◌-◌, ◌<◌, nat_le, Bool, true, false, cond, List, [], ◌∷◌}
use Rattle.sock_words.specs.declared.plain.Plan.{Plan}
use Rattle.sock_words.specs.PackedWords.{socket_id_version, socket_id_slot}
use Rattle.sock_model.specs.declared.marks.Mark.{Mark}
use Rattle.sock_model.specs.declared.marks.Mark.TheVariants.{Recycling, Freer, Met}
use Rattle.sock_model.specs.declared.view.View.{View}
use Rattle.sock_model.specs.MarkWeights.{is_ref, is_probe, is_claimed, is_any_coding, is_zero, is_known, is_hold}
use Rattle.sock_model.specs.Marks.{at}
use Rattle.sock_model.specs.SlotRows.{marks_of}
use Rattle.sock_rule.specs.LinkFaultNotes.{end_note}
use Rattle.sock_rule.specs.MarksComeAndGo.{Became}
use Rattle.sock_rule.specs.OnTable.{put_in}
pub use Rattle.sock_rule.specs.NotesBesideRows.{Knows}

-- between two calls a seat has references and notes alone
pub record IsBetween (p : Plan) (v : View) : Type 0 where
  pub unclaimed : (i : ℕ) → i < p.slots → marks_of is_claimed i v ≡ 0
  pub unprobed : (i : ℕ) → i < p.slots → marks_of is_probe i v ≡ 0
  pub uncoding : (i : ℕ) → i < p.slots → marks_of is_any_coding i v ≡ 0
  pub no_zero : (i w : ℕ) → i < p.slots → marks_of (is_zero w) i v ≡ 0
  pub no_rights : v.rights ≡ []
  pub empty : v.hands ≡ []
  -- its passes are out, each with a seat of its own
  pub no_passes : v.passes ≡ []

-- but for its rights it has references and notes alone
abbrev pub Rests : Plan → View → Type 0
Rests p v = IsBetween p (record v { rights = [] })

-- a slot whose versions are used up stays with whoever recycled it
abbrev pub retired : ℕ → List Mark
retired x = cond (nat_le x 4294967292) [] (Recycling x ∷ [])

-- what is noted where a seat's exchange ended the life that was failed at the version w, or didn't: its link, and that the half of that went home finished
abbrev pub EndedBy : Plan → Bool → ℕ → List Mark → Type 0
EndedBy p false w adds = adds ≡ []
EndedBy p true w adds = (k : ℕ) × (adds ≡ Freer (w - 1) ∷ Met (w + 1 - 2) k ∷ end_note p k ∷ retired (w + 1))

-- a reference, the mark m, was given back, and with it the slot's life ended or not; a life that was held is the one that ended
pub record GaveBack (i : ℕ) (v w : View) (m : Mark) (ended : Bool) : Type 0 where
  -- the version at which the last reference was given back
  pub version : ℕ
  pub notes : List Mark
  pub became : Became i v w notes (m ∷ [])
  pub by : EndedBy v.plan ended version notes
  pub life : (h : ℕ) → 0 < marks_of (is_hold h) i v → ended ≡ true → version - 1 ≡ h

-- no reference, claim, entry or right came or went, and the lists of accepted messages are as they were
pub record SameTokens (p : Plan) (v w : View) : Type 0 where
  pub refs : (i : ℕ) → i < p.slots → marks_of is_ref i w ≡ marks_of is_ref i v
  pub claims : w.claims ≡ v.claims
  pub loose : w.loose ≡ v.loose
  pub rights : w.rights ≡ v.rights
  pub hands : w.hands ≡ v.hands
  pub lists : w.lists ≡ v.lists
  pub share : w.share ≡ v.share

-- the half of link k went home finished, which is noted, and nothing more was seen, found or stored; what is stored is counted, since a seat that is taken in may leave an empty list of stores
pub record FinishedLink (p : Plan) (k : ℕ) (v w : View) : Type 0 where
  pub marks : w.marks ≡ at 0 (end_note p k) ∷ v.marks
  pub found : w.found ≡ v.found
  pub finds : w.finds ≡ v.finds
  pub histories : w.histories ≡ v.histories
  pub drops : w.drops ≡ v.drops
  pub stores : (x n : ℕ) → put_in x n w ≡ put_in x n v

-- the seat may address this id
pub record MayAddress (p : Plan) (v : View) (id : ℕ) : Type 0 where
  pub inside : socket_id_slot id < p.slots
  pub known : 0 < marks_of (is_known (socket_id_version id)) (socket_id_slot id) v
  pub room : marks_of is_ref (socket_id_slot id) v < 65536
