-- Which slot each link is in, and who holds it there.
use Rattle.std.specs.Prelude.{◌≡◌, ℕ, ◌<◌, List, slice_index}
use mathlib.Core.Option.{Option, some}
use lib.ListN.{get_elem?}
use Rattle.atomic_table.specs.Table.{State}
use Rattle.sock_words.specs.declared.plain.Plan.{Plan}
use Rattle.sock_model.specs.declared.chain.Entry.{Entry}
use Rattle.sock_model.specs.declared.chain.Right.{Right}
use Rattle.sock_model.specs.declared.view.View.{View}
use Rattle.sock_model.specs.MarkWeights.{is_hold, is_failer, is_freer, is_linked, is_met, is_reset}
use Rattle.sock_model.specs.SocketTableLayout.{head_index}
use Rattle.sock_model.specs.SocketSlotLaw.{count}
use Rattle.sock_model.specs.References.{slot_facts}
use Rattle.sock_model.specs.SlotRows.{marks_of}
use Rattle.sock_words.specs.PackedWords.{IDLE}

-- the seat holds the life h of slot j, and knows that its link is k
pub record HoldsLink (p : Plan) (v : View) (j h k : ℕ) : Type 0 where
  -- the slot is one of the table
  pub inside : j < p.slots
  -- it has a reference to the life
  pub held : 0 < marks_of (is_hold h) j v
  -- and found its link
  pub met : 0 < marks_of (is_met h k) j v

-- of each right the seat holds the life
abbrev pub HoldsRights : Plan → View → Type 0
HoldsRights p v = (i : ℕ) (r : Right) → get_elem? v.rights i ≡ some r → (r.link < p.links) × (j : ℕ) × (h : ℕ) × HoldsLink p v j h r.link

module _ {S : Type 0} (p : Plan) (s : State S View) where
  -- the life h of slot j was given the link k
  pub record Given (j h k : ℕ) : Type 0 where
    -- the slot is one of the table
    pub inside : j < p.slots
    -- whoever made the life noted its link
    pub given : 0 < count (is_linked h k) (slot_facts s j)

  -- and it isn't ended
  pub record Lives (j h k : ℕ) : Type 0 where
    -- it was given the link
    pub life : Given j h k
    -- and nobody ended it
    pub unended : count (is_freer h) (slot_facts s j) ≡ 0

  -- the link's life was failed
  pub record Failed (k : ℕ) : Type 0 where
    -- the slot
    pub slot : ℕ
    -- and the version of its life
    pub version : ℕ
    -- that was given the link
    pub life : Given slot version k
    -- and that a seat failed
    pub failed : 0 < count (is_failer version) (slot_facts s slot)

  pub record InSlots (slot : ℕ → Option ℕ) (log : List Entry) : Type 0 where
    -- a link is in a slot where a life of the slot was given it and isn't ended
    pub lives : (k j : ℕ) → slot k ≡ some j → (h : ℕ) × Lives j h k
    -- and then it is in that slot
    pub alone : (j h k : ℕ) → Lives j h k → slot k ≡ some j
    -- each link that a life was given is one of the table
    pub small : (j h k : ℕ) → Given j h k → k < p.links
    -- a link that accepted a message was given to a life
    pub entered : (q : ℕ) (e : Entry) → get_elem? log q ≡ some e → (j : ℕ) × (h : ℕ) × Given j h e.link
    -- a claim's head stays reset until the birth
    pub reset : (j : ℕ) → j < p.slots → 0 < count is_reset (slot_facts s j) → slice_index s.words (head_index j) ≡ IDLE
