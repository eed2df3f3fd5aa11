-- What each step tells: of the step, the seat before, the number found and the seat after.
use Rattle.std.specs.Prelude.{◌≡◌, ℕ, ◌+◌, ◌≤◌, true, false, cond, ◌==◌, nat_le, List, [], ◌∷◌, Some, None}
use Rattle.std.specs.Prelude.{Option as Maybe}
use Rattle.atomic_table.specs.Table.{Me, Step}
use Rattle.corr_core.specs.IdSlotWord.{Parts, parts}
use Rattle.corr_core.specs.IdSlotLaw.{LAST, Holds, Begins}
use Rattle.corr_core.specs.declared.marks.Hand.{Hand}
use Rattle.corr_core.specs.declared.marks.Hand.TheVariants.{Empty, Out, Full}
use Rattle.corr_core.specs.declared.marks.Token.{Token}
use Rattle.corr_core.specs.declared.marks.Token.TheVariants.{Claimed, Locked, Leaving}
use Rattle.corr_core.specs.declared.marks.Note.TheVariants.{Tried, Made, Ended, Locker, Attempt}
use Rattle.corr_core.specs.declared.marks.View.{View}
use Rattle.corr_core.specs.IdTableLayout.{tag_index, id_index}
use Rattle.id_rule.specs.LawfulIdTable.{tokens_in, with_token, no_token, with_note, with_kept}

-- the error by which the queue of the second word is longer
abbrev pub put_error : Parts → Parts → ℕ
put_error p q = cond (p.oldest == 0) q.oldest q.second

-- what the seat that locks an open id knows of its word
pub record LockFits (w : Parts) : Type 0 where
  pub low : w.first ≤ LAST
  pub range_low : 2 ≤ w.range
  pub range_high : w.range ≤ 8
  pub room : w.attempt + 2 ≤ w.range

-- the word of a lock, which other seats only queue in
pub record Longer (f rg at o s : ℕ) (w : Parts) : Type 0 where
  pub first_is : f ≡ w.first
  pub state_is : w.state ≡ 2
  pub range_is : rg ≡ w.range
  pub attempt_is : at ≡ w.attempt
  pub begins : Begins o s w

module _ {C : Type 0} where
  -- the seat's view becomes w, and it holds the same slots
  abbrev pub Becomes : Me (Maybe C) (View C) → Me (Maybe C) (View C) → View C → Type 0
  Becomes m n w = n ≡ (w, m.1)

  abbrev pub has_token : ℕ → Token C → Me (Maybe C) (View C) → Type 0
  has_token i t m = tokens_in i m.0 ≡ t ∷ []

  abbrev pub hand_of : Token C → Hand C
  hand_of (Claimed f h) = h
  hand_of (Locked f rg at c o s h) = h
  hand_of Leaving = Out

  abbrev pub with_hand : Token C → Hand C → Token C
  with_hand (Claimed f h) k = Claimed f k
  with_hand (Locked f rg at c o s h) k = Locked f rg at c o s k
  with_hand Leaving k = Leaving

  -- what a home has, and what a seat has that put this value there
  abbrev pub value_of : Hand C → Maybe C
  value_of Empty = None
  value_of Out = None
  value_of (Full c) = Some c

  abbrev pub hand_by : Maybe C → Hand C
  hand_by None = Empty
  hand_by (Some c) = Full c

  abbrev pub IsHome : Hand C → Type 0
  IsHome Empty = Unit {0}
  IsHome Out = ⊥
  IsHome (Full c) = Unit {0}

  abbrev pub NotLeaving : Token C → Type 0
  NotLeaving (Claimed f h) = Unit {0}
  NotLeaving (Locked f rg at c o s h) = Unit {0}
  NotLeaving Leaving = ⊥

  -- the home of a lock is empty, or has the content of the lock
  abbrev pub Fitting : Token C → Hand C → Type 0
  Fitting (Claimed f h) k = Unit {0}
  Fitting (Locked f rg at c o s h) k = Holds c k
  Fitting Leaving k = ⊥

  abbrev pub claimed_view : ℕ → ℕ → View C → View C
  claimed_view i found v = cond (found == 0) (with_token i (Claimed 0 Empty) v) (with_note i Tried v)

  abbrev pub claim_told : Step (Maybe C) → Me (Maybe C) (View C) → ℕ → Me (Maybe C) (View C) → Type 0
  claim_told st m found n = (i : ℕ) → st.word ≡ tag_index i → Becomes m n (claimed_view i found m.0) × (found ≡ 0 → tokens_in i m.0 ≡ [])

  -- I7 by the seat that claimed the slot
  abbrev pub read_told : Step (Maybe C) → Me (Maybe C) (View C) → ℕ → Me (Maybe C) (View C) → Type 0
  read_told st m found n = (i seen : ℕ) (h : Hand C) → st.word ≡ id_index i → has_token i (Claimed seen h) m → Becomes m n (with_token i (Claimed (parts found).first h) m.0) × (1 ≤ (parts found).first) × ((parts found).first ≤ LAST)

  -- the first part of K1 and K2: the turn of the slot is taken
  abbrev pub take_told : Step (Maybe C) → Me (Maybe C) (View C) → ℕ → Me (Maybe C) (View C) → Type 0
  take_told st m found n = (i : ℕ) (t : Token C) → st.word ≡ tag_index i → has_token i t m → n ≡ (with_token i (with_hand t Out) m.0, (i, value_of (hand_of t)) ∷ m.1)

  -- the second part: it is given back with the value y
  abbrev pub give_told : Step (Maybe C) → Me (Maybe C) (View C) → ℕ → Me (Maybe C) (View C) → Type 0
  give_told st m found n = (i : ℕ) (t : Token C) (y : Maybe C) (rest : List (ℕ × Maybe C)) → st.word ≡ tag_index i → has_token i t m → m.1 ≡ (i, y) ∷ rest → n ≡ (with_token i (with_hand t (hand_by y)) m.0, rest)

  abbrev pub make_told : Step (Maybe C) → Me (Maybe C) (View C) → ℕ → Me (Maybe C) (View C) → Type 0
  make_told st m found n = (i f : ℕ) (c : C) → st.word ≡ id_index i → has_token i (Claimed f (Full c)) m → Becomes m n (with_note i (Made f (parts st.first).range c) (no_token i m.0))

  abbrev pub locked_view : ℕ → ℕ → ℕ → ℕ → C → View C → View C
  locked_view i f rg at c v = with_note i (Locker f c) (with_token i (Locked f rg at c 0 0 (Full c)) v)

  -- with nothing queued the id opens; the note comes with an advance
  abbrev pub popped_view : ℕ → ℕ → ℕ → ℕ → C → ℕ → ℕ → View C → View C
  popped_view i f rg at c oldest second v = cond (oldest == 0) (no_token i v) (with_token i (Locked f rg at c second 0 (Full c)) v)

  abbrev pub advanced_view : ℕ → ℕ → ℕ → ℕ → View C → View C
  advanced_view i f from to v = cond (from == to) v (with_note i (Attempt f to) v)

  -- a slot whose next first version is too high is retired
  abbrev pub ended_view : ℕ → ℕ → ℕ → ℕ → View C → View C
  ended_view i f at next v = with_note i (Ended f at) (cond (nat_le next LAST) (with_token i Leaving v) (no_token i v))

  abbrev pub end_told : Step (Maybe C) → Me (Maybe C) (View C) → ℕ → Me (Maybe C) (View C) → Type 0
  end_told st m found n = (i f rg at o s : ℕ) (c : C) → st.word ≡ id_index i → has_token i (Locked f rg at c o s Empty) m → Becomes m n (ended_view i f at (parts st.first).first m.0)

  abbrev pub free_told : Step (Maybe C) → Me (Maybe C) (View C) → ℕ → Me (Maybe C) (View C) → Type 0
  free_told st m found n = (i : ℕ) → st.word ≡ tag_index i → Becomes m n (no_token i m.0)

  -- T1, T2
  abbrev pub store_told : Step (Maybe C) → Me (Maybe C) (View C) → ℕ → Me (Maybe C) (View C) → Type 0
  store_told st m found n = Becomes m n (with_kept st.word true st.first m.0)

  abbrev pub found_view : ℕ → ℕ → View C → View C
  found_view x found v = cond (found == 0) v (with_kept x false found v)

  abbrev pub load_told : Step (Maybe C) → Me (Maybe C) (View C) → ℕ → Me (Maybe C) (View C) → Type 0
  load_told st m found n = Becomes m n (found_view st.word found m.0)
