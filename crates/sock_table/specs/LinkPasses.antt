-- The passes of links, and what becomes of them.
use Rattle.std.specs.Prelude.{◌≡◌, ◌≢◌, ℕ, ◌+◌, ◌<◌, ◌≤◌, [], ◌∷◌}
use Rattle.atomic_table.specs.Seated.{TableId}
use Rattle.sock_io.specs.declared.link.Out.{Ghosts}
use Rattle.sock_words.specs.declared.plain.Plan.{Plan}
use Rattle.sock_words.specs.PackedWords.{socket_id_version, socket_id_slot}
use Rattle.sock_model.specs.declared.marks.Mark.{Mark}
use Rattle.sock_model.specs.declared.marks.Mark.TheVariants.{Claimed as ClaimOf, Tried, Known, Born, Linked}
use Rattle.sock_model.specs.declared.view.View.{View}
use Rattle.sock_model.specs.MarkWeights.{is_stage}
use Rattle.sock_model.specs.Marks.{about}
use Rattle.sock_model.specs.ViewsOfSplitSeats.{carrier}
use Rattle.sock_model.specs.SlotRows.{marks_of}
use Rattle.sock_rule.specs.OnTable.{put_in}
use Rattle.sock_table.specs.declared.passes.LinkPass.{LinkPass}
use Rattle.sock_table.specs.ReferenceCalls.{SameTokens}

-- a pass of this table
abbrev pub IsPass : {O : Type 0} {g : Ghosts O} → TableId → Plan → LinkPass O g → Type 0
IsPass z p x = (x.seat.table_id ≡ z) × (x.seat.me.1 ≡ []) × (x.seat.me.0 ≡ carrier p (x.link ∷ []))

-- the seat claimed the slot just now
abbrev pub Claimed : ℕ → View → Type 0
Claimed i v = 0 < marks_of (is_stage 0 0) i v

-- the claim of slot i became the life of this id, with the link k
pub record Made (p : Plan) (i id k : ℕ) (v w : View) : Type 0 where
  pub slot : socket_id_slot id ≡ i
  pub here : (f : Mark → ℕ) → marks_of f i w + f (ClaimOf 0 0) ≡ marks_of f i v + (f (Linked (socket_id_version id) k) + (f (Born (socket_id_version id)) + f (Known (socket_id_version id))))
  pub elsewhere : (j : ℕ) → j ≢ i → about j w.marks ≡ about j v.marks
  pub tokens : SameTokens p v w
  -- the pass was spent
  pub passes : v.passes ≡ [] → w.passes ≡ []
  -- and nothing was found or stored
  pub found : w.found ≡ v.found
  pub finds : w.finds ≡ v.finds
  pub histories : w.histories ≡ v.histories
  pub drops : w.drops ≡ v.drops
  pub stores : (x n : ℕ) → put_in x n w ≡ put_in x n v

-- the tags of the first n slots were found taken, and nothing else changed
pub record TriedTo (n : ℕ) (v w : View) : Type 0 where
  pub each : (j : ℕ) → j < n → (f : Mark → ℕ) → marks_of f j w ≡ marks_of f j v + f Tried
  pub elsewhere : (j : ℕ) → n ≤ j → about j w.marks ≡ about j v.marks
  pub others : w ≡ record v { marks = w.marks }

-- the life of this id was born, with the link k; the tags of the slots before its own were found taken
pub record Created (id k : ℕ) (v w : View) : Type 0 where
  pub here : (f : Mark → ℕ) → marks_of f (socket_id_slot id) w ≡ marks_of f (socket_id_slot id) v + (f (Linked (socket_id_version id) k) + (f (Born (socket_id_version id)) + f (Known (socket_id_version id))))
  pub tried : (j : ℕ) → j < socket_id_slot id → (f : Mark → ℕ) → marks_of f j w ≡ marks_of f j v + f Tried
  pub elsewhere : (j : ℕ) → socket_id_slot id < j → about j w.marks ≡ about j v.marks
  pub found : w.found ≡ v.found
  pub finds : w.finds ≡ v.finds
  pub histories : w.histories ≡ v.histories
  pub drops : w.drops ≡ v.drops
  pub stores : (x n : ℕ) → put_in x n w ≡ put_in x n v
