-- How a link stands: in no slot, idle, or written by one seat, and how far that seat has come.
use Rattle.std.specs.Prelude.{◌≡◌, ℕ, suc, ◌+◌, ◌<◌, ◌≤◌, ◌⊎◌, List, [], ◌∷◌, length}
use mathlib.Core.Option.{none, some}
use lib.ListN.{get_elem?}
use Rattle.sock_model.specs.declared.chain.Entry.{Entry}
use Rattle.sock_model.specs.declared.chain.Stage.{Stage}
use Rattle.sock_model.specs.declared.chain.Stage.TheVariants.{Writes, Placed, Passes, Empties, Reversing, ReversesNext}
use Rattle.sock_model.specs.declared.chain.Right.{Right}
use Rattle.sock_model.specs.declared.chain.Loose.{Loose}
use Rattle.sock_model.specs.Entries.{nth}
use Rattle.sock_model.specs.ChainTokens.{Tokens}
use Rattle.sock_model.specs.ChainMemory.{Memory}
use Rattle.sock_words.specs.PackedWords.{UNCONNECTED, IDLE}

-- Of the entries of a chain, `noted` stand up to the right's last ticket, `left` aren't turned by the walk, and `top` stand up to where it began. At rest all three are the same.
pub record Counts : Type 0 where
  -- up to the right's last ticket
  pub noted : ℕ
  -- not turned by the walk
  pub left : ℕ
  -- up to where the walk began
  pub top : ℕ

-- an entry whose next word is x, and which stands as loose by l: it has its predecessor's ticket there
abbrev pub Connected : Entry → ℕ → List Loose → Type 0
Connected e x l = (x ≡ e.before) × (l ≡ [])

abbrev pub loose_of : Entry → Loose
loose_of e = record { request = e.request; before = e.before }

abbrev pub Waits : Entry → ℕ → List Loose → Type 0
Waits e x l = Connected e x l ⊎ ((x ≡ UNCONNECTED) × (l ≡ loose_of e ∷ []))

-- where the next word of entry i of the chain c points: to the entry behind it where it is written or turned, else to the one before it
pub record Points (c : List Entry) (n : Counts) (i : ℕ) (e : Entry) (x : ℕ) (l : List Loose) : Type 0 where
  -- up to the right's last ticket to its successor
  pub written : i < n.noted → (l ≡ []) × (suc i < n.noted → x ≡ nth c (suc (suc i)))
  -- what the walk hasn't passed to its predecessor, or not yet connected
  pub unturned : n.noted ≤ i → i < n.left → Waits e x l
  -- what it passed to its successor, and the newest of these to none
  pub turned : n.left ≤ i → i < n.top → (l ≡ []) × (suc i < n.top → x ≡ nth c (suc (suc i))) × (suc i ≡ n.top → x ≡ 0)
  -- what came since to its predecessor, or not yet connected
  pub newer : n.top ≤ i → Waits e x l

abbrev pub AtRest : Counts → Type 0
AtRest n = (n.left ≡ n.noted) × (n.top ≡ n.noted)

pub record OnWalk (c : List Entry) (n : Counts) (freed places top at after : ℕ) : Type 0 where
  -- all that was noted is written
  pub all_freed : (freed ≡ n.noted) × (places ≡ freed)
  -- an entry at least is left
  pub some_left : n.noted < n.left
  -- the walk began at this ticket
  pub top_is : nth c n.top ≡ top
  -- and stands at this one
  pub at_is : nth c n.left ≡ at
  -- whose successor is this
  pub after_is : n.left < n.top → after ≡ nth c (suc n.left)
  -- or none, where it just began
  pub no_after : n.left ≡ n.top → after ≡ 0

module _ (m : Memory) (t : Tokens) where
  abbrev pub InStage : List Entry → Counts → ℕ → ℕ → Stage → Type 0
  InStage c n freed places (Writes now) = AtRest n × (places ≡ freed) × (freed < n.noted) × (nth c (suc freed) ≡ now)
  InStage c n freed places (Placed now) = AtRest n × (places ≡ suc freed) × (freed < n.noted) × (nth c (suc freed) ≡ now)
  InStage c n freed places (Passes now next) = AtRest n × (places ≡ suc freed) × (suc freed < n.noted) × (nth c (suc freed) ≡ now) × (nth c (suc (suc freed)) ≡ next)
  InStage c n freed places Empties = AtRest n × (places ≡ freed) × (freed ≡ n.noted)
  InStage c n freed places (Reversing top at after) = OnWalk c n freed places top at after
  InStage c n freed places (ReversesNext top at after before) = OnWalk c n freed places top at after
      × ((j : ℕ) (e : Entry) → suc j ≡ n.left → get_elem? c j ≡ some e → (before ≡ e.before) × Connected e (m.next e.request) (t.loose e.request))

  pub record Held (c : List Entry) (freed places : ℕ) (r : Right) : Type 0 where
    -- how far the right has come
    pub counts : Counts
    -- it has noted an entry at least
    pub some_noted : 0 < counts.noted
    -- the counts stand in their order
    pub fits : (freed ≤ counts.noted) × (counts.noted ≤ counts.left) × (counts.left ≤ counts.top) × (counts.top ≤ length c)
    -- the walk turned these
    pub turned_is : counts.top ≡ counts.left + r.turned
    -- and the right knows how many it has noted
    pub noted_is : counts.noted ≡ r.noted
    -- its last ticket is that of the last entry noted
    pub last_is : nth c counts.noted ≡ r.last
    -- what it does next fits
    pub stage_is : InStage c counts freed places r.stage
    -- where the next words of the entries that are still in use point
    pub points : (i : ℕ) (e : Entry) → freed ≤ i → get_elem? c i ≡ some e → Points c counts i e (m.next e.request) (t.loose e.request)

  -- link k, whose chain is c: it is in no slot, its head is idle, or one view has the right to write it
  pub data Standing (k : ℕ) (c : List Entry) (freed places : ℕ) : Type 0 where
    absent : m.head k ≡ none → t.rights k ≡ [] → freed ≡ length c → places ≡ freed → Standing k c freed places
    idle : m.head k ≡ some (IDLE + nth c (length c)) → t.rights k ≡ [] → freed ≡ length c → places ≡ freed → Standing k c freed places
    busy : (r : Right) → m.head k ≡ some (nth c (length c)) → t.rights k ≡ r ∷ [] → Held c freed places r → Standing k c freed places
