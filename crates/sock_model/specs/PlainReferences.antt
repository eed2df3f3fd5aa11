-- The plain model of references: which lives there are and who holds them, what may happen to them, and how the views of all seats are read as it.
use Rattle.std.specs.Prelude.{◌≡◌, ℕ, ◌+◌, ◌-◌, ◌<◌, ◌≤◌, ◌==◌, cond, List, [], ◌∷◌, map, slice_index}
use Rattle.sock_model.specs.declared.view.View.{View}
use Rattle.sock_model.specs.MarkWeights.{pair, is_hold, is_born, is_failer, is_freer}
use Rattle.sock_model.specs.SlotRows.{marks_of}
use Rattle.sock_words.specs.Totals.{total}

-- ## Lives and who holds them

-- one life of a socket: its slot, and the version with which it was made there
pub record Life : Type 0 where
  pub slot : ℕ
  pub version : ℕ

abbrev pub life_at : ℕ → ℕ → Life
life_at slot version = record { slot = slot; version = version }

pub record Plain : Type 0 where
  -- how often a life was made, set failed and ended
  pub births : Life → ℕ
  pub fails : Life → ℕ
  pub ends : Life → ℕ
  -- how many references to it a seat has
  pub holds : ℕ → Life → ℕ

-- before anything happened
abbrev pub no_lives : Plain
no_lives = record { births = λ l. 0; fails = λ l. 0; ends = λ l. 0; holds = λ seat l. 0 }

-- the life is live: it was made, and nobody has set it failed
abbrev pub IsLive : Plain → Life → Type 0
IsLive q l = (0 < q.births l) × (q.fails l ≡ 0)

-- no seat holds it
abbrev pub IsUnheld : Plain → Life → Type 0
IsUnheld q l = (seat : ℕ) → q.holds seat l ≡ 0

-- ## What may happen

-- behind the life the seat, where one takes or gives a reference
pub data Event : Type 0 where
  -- nothing that lives or holders show
  Nothing : Event
  -- the life is made
  Birth : Life → Event
  -- the seat has one reference more
  Hold : Life → ℕ → Event
  -- the seat has one reference less
  Drop : Life → ℕ → Event
  -- the seat sets the life failed, and gets the reference that stood for its being live
  Fail : Life → ℕ → Event
  -- the life ends
  End : Life → Event

-- when each may happen
abbrev pub MayCome : Plain → Event → Type 0
MayCome q Nothing = Unit {0}
MayCome q (Birth l) = (q.births l ≡ 0) × ((h : ℕ) → 0 < q.births (life_at l.slot h) → 0 < q.ends (life_at l.slot h))
MayCome q (Hold l seat) = IsLive q l
MayCome q (Drop l seat) = 0 < q.holds seat l
MayCome q (Fail l seat) = IsLive q l × (0 < q.holds seat l)
MayCome q (End l) = (0 < q.fails l) × (q.ends l ≡ 0) × IsUnheld q l

-- 1 where the two lives are one, else 0
abbrev pub same_life : Life → Life → ℕ
same_life l other = pair l.slot l.version other.slot other.version

-- once more for the life l
abbrev pub once_more : Life → (Life → ℕ) → Life → ℕ
once_more l f other = f other + same_life l other

-- one reference more, or less, of this seat to the life l
abbrev pub one_more : Life → ℕ → (ℕ → Life → ℕ) → ℕ → Life → ℕ
one_more l seat f any other = f any other + cond (any == seat) (same_life l other) 0

abbrev pub one_less : Life → ℕ → (ℕ → Life → ℕ) → ℕ → Life → ℕ
one_less l seat f any other = f any other - cond (any == seat) (same_life l other) 0

-- what each changes; all else stays
abbrev pub changed : Event → Plain → Plain
changed Nothing q = q
changed (Birth l) q = record q { births = once_more l q.births }
changed (Hold l seat) q = record q { holds = one_more l seat q.holds }
changed (Drop l seat) q = record q { holds = one_less l seat q.holds }
changed (Fail l seat) q = record q { fails = once_more l q.fails; holds = one_more l seat q.holds }
changed (End l) q = record q { ends = once_more l q.ends }

-- the event happens, and leads from one state to the next
abbrev pub Becomes : Plain → Event → Plain → Type 0
Becomes before event after = MayCome before event × (after ≡ changed event before)

-- these events happen one after another
abbrev pub Leads : Plain → List Event → Plain → Type 0
Leads before [] after = after ≡ before
Leads before (event ∷ events) after = (next : Plain) × Becomes before event next × Leads next events after

-- ## The laws

-- the life was made, and has not ended
abbrev pub IsUnended : Plain → Life → Type 0
IsUnended q l = (0 < q.births l) × (q.ends l ≡ 0)

-- what is true of so many slots at any time
pub record PlainLaw (slots : ℕ) (q : Plain) : Type 0 where
  -- a life is born once at most
  pub born_once : (l : Life) → l.slot < slots → q.births l ≤ 1
  -- it fails once at most, and after it was born
  pub born_first : (l : Life) → l.slot < slots → q.fails l ≤ q.births l
  -- it ends once at most, and after it failed
  pub failed_first : (l : Life) → l.slot < slots → q.ends l ≤ q.fails l
  -- a life that someone holds is live, or failed and not ended
  pub held_unended : (l : Life) (seat : ℕ) → l.slot < slots → 0 < q.holds seat l → IsUnended q l
  -- of a slot's lives one at most is born and has not ended
  pub one_unended : (i g h : ℕ) → i < slots → IsUnended q (life_at i g) → IsUnended q (life_at i h) → g ≡ h

-- ## The reading

-- the notes of all seats tell what became of each life, and a seat's own references what it holds
abbrev pub plain : List View → Plain
plain views = record {
  births = λ l. total (marks_of (is_born l.version) l.slot) views;
  fails = λ l. total (marks_of (is_failer l.version) l.slot) views;
  ends = λ l. total (marks_of (is_freer l.version) l.slot) views;
  holds = λ seat l. slice_index (map (marks_of (is_hold l.version) l.slot) views) seat;
}
