-- What the calls on references answer.
use Rattle.std.specs.Prelude.{◌≡◌, ◌≢◌, ℕ, ◌+◌, ◌<◌, ◌≤◌, Bool, true, false, List, [], ◌∷◌}
use Rattle.sock_words.specs.declared.plain.Plan.{Plan}
use Rattle.sock_words.specs.PackedWords.{socket_id_version, socket_id_slot, vref_version}
use Rattle.sock_model.specs.declared.marks.Mark.{Mark}
use Rattle.sock_model.specs.declared.marks.Mark.TheVariants.{Hold, Saw, Failer, Stored, Told, Met}
use Rattle.sock_model.specs.declared.view.View.{View}
use Rattle.sock_model.specs.MarkWeights.{is_hold, is_saw, is_told, is_met}
use Rattle.sock_model.specs.SlotRows.{marks_of}
use Rattle.sock_rule.specs.MarksComeAndGo.{Became}
use Rattle.sock_table.specs.declared.refs.Released.{Released}
use Rattle.sock_table.specs.declared.refs.Released.TheVariants.{Freed, Kept}
use Rattle.sock_table.specs.declared.refs.Look.{Look}
use Rattle.sock_table.specs.declared.refs.Look.TheVariants.{Live, Failed}
use Rattle.sock_table.specs.ReferenceCalls.{EndedBy}

abbrev pub is_freed : Released → Bool
is_freed Freed = true
is_freed Kept = false

abbrev pub IfLive : Look → Type 0 → Type 0
IfLive Live t = t
IfLive (Failed found) t = Unit {0}

-- the seat saw no version of the slot behind that of this id: it didn't find the life failed or gone
abbrev pub NoneLater : ℕ → View → Type 0
NoneLater id v = (w : ℕ) → 0 < marks_of (is_saw w) (socket_id_slot id) v → w ≤ socket_id_version id

-- the seat has a reference to the life of this id
pub record Holds (p : Plan) (v : View) (id : ℕ) : Type 0 where
  pub inside : socket_id_slot id < p.slots
  pub held : 0 < marks_of (is_hold (socket_id_version id)) (socket_id_slot id) v

-- it has one more reference to just that life, and saw its version
abbrev pub Held : ℕ → View → View → Type 0
Held id v w = Became (socket_id_slot id) v w (Saw (socket_id_version id) ∷ Hold (socket_id_version id) ∷ []) []

-- the word that was found has a later version, and the seat has as many references as before; its step may have ended a life
pub record GoneFrom (id found : ℕ) (v w : View) : Type 0 where
  pub later : socket_id_version id < vref_version found
  pub ended : Bool
  pub version : ℕ
  pub notes : List Mark
  pub by : EndedBy v.plan ended version notes
  pub became : Became (socket_id_slot id) v w (Saw (vref_version found) ∷ notes) []

-- by the version of the word that was found: that of the id, or the odd one behind it
abbrev pub LookedAt : Look → ℕ → View → View → Type 0
LookedAt Live id v w = Became (socket_id_slot id) v w (Saw (socket_id_version id) ∷ []) []
LookedAt (Failed found) id v w = (vref_version found.0 ≡ socket_id_version id + 1) × Became (socket_id_slot id) v w (Saw (vref_version found.0) ∷ []) []

-- the link of the life is k, as often as the seat asks
pub record LinkOf (p : Plan) (k id : ℕ) (v w : View) : Type 0 where
  pub inside : k < p.links
  pub same : (d : ℕ) → 0 < marks_of (is_met (socket_id_version id) d) (socket_id_slot id) v → k ≡ d
  pub became : Became (socket_id_slot id) v w (Met (socket_id_version id) k ∷ []) []

-- the code of the life is c, the one that the seat stored or found before; with a code it is failed
pub record CodeOf (c id : ℕ) (v w : View) : Type 0 where
  pub same : (d : ℕ) → 0 < marks_of (is_told (socket_id_version id) d) (socket_id_slot id) v → c ≡ d
  pub none_yet : c ≡ 0 → w ≡ v
  pub told : c ≢ 0 → Became (socket_id_slot id) v w (Saw (socket_id_version id + 1) ∷ Told (socket_id_version id) c ∷ []) []

-- this step failed the life, and stored its code
abbrev pub FailedBy : ℕ → ℕ → View → View → Type 0
FailedBy id code v w = let h = socket_id_version id in Became (socket_id_slot id) v w (Failer h ∷ Saw (h + 1) ∷ Stored h code ∷ Told h code ∷ []) []

-- it had been failed
abbrev pub FoundFailed : ℕ → ℕ → View → View → Type 0
FoundFailed id found v w = (vref_version found ≡ socket_id_version id + 1) × Became (socket_id_slot id) v w (Saw (vref_version found) ∷ []) []
