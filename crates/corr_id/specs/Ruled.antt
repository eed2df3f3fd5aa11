-- The rule of the table, and what an unlocking exchange tells.
use Rattle.std.specs.Prelude.{◌≡◌, ◌≢◌, ℕ, ◌%◌, List, ◌<◌, ◌≤◌, ◌⊎◌}
use Rattle.std.specs.Prelude.{Option as Maybe}
use Rattle.atomic_table.specs.Table.{State, Me, Step}
use Rattle.corr_core.specs.IdSlotWord.{Parts, parts, attempt_of}
use Rattle.corr_core.specs.IdSlotLaw.{LAST, Each, only, is_made, is_advance}
use Rattle.corr_core.specs.declared.marks.Plan.{Plan}
use Rattle.corr_core.specs.declared.marks.Hand.{Hand}
use Rattle.corr_core.specs.declared.marks.Hand.TheVariants.{Full}
use Rattle.corr_core.specs.declared.marks.Token.{Token}
use Rattle.corr_core.specs.declared.marks.Token.TheVariants.{Claimed, Locked, Leaving}
use Rattle.corr_core.specs.declared.marks.Note.TheVariants.{Queued, Saw}
use Rattle.corr_core.specs.declared.marks.Kept.{Kept}
use Rattle.corr_core.specs.declared.marks.View.{View}
use Rattle.std.specs.List.{flat_map}
use Rattle.corr_core.specs.IdTableLayout.{id_index}
use Rattle.id_rule.specs.LawfulIdTable.{is_stored, kept_in, notes_in, local, Lawful, with_token, with_note}
use Rattle.corr_id.specs.SeatBehindIdCalls.{is_saw, is_at, FoundUpTo, ReachedUpTo}
use Rattle.id_rule.specs.IdPlays.{Becomes, has_token, LockFits, Longer, locked_view, put_error, popped_view, advanced_view, found_view}
use Rattle.sock_words.specs.PackedWords.{id_slot, id_first, call_id}
use Rattle.sock_words.specs.Totals.{total}

-- a word of this place
abbrev pub is_place : ℕ → Kept → ℕ
is_place x k = only x k.place

-- the error is for this attempt, or for the whole call
abbrev pub IsFresh : ℕ → ℕ → Type 0
IsFresh attempt e = (attempt_of e ≡ 7) ⊎ (attempt_of e ≡ attempt)

-- a locked word that has a second error has a first one
abbrev pub InTurn : Parts → Type 0
InTurn w = w.state ≡ 2 → w.oldest ≡ 0 → w.second ≡ 0

-- a word that was found once the id with this first version was made: it has the id's range, or a later one
abbrev pub IsBehind : ℕ → Parts → Type 0
IsBehind f w = (f < w.first) ⊎ ((f ≡ w.first) × (0 < w.state) × (1 ≤ w.range) × (w.state ≤ 2))

module _ {C : Type 0} where
  -- the errors behind those that the lock's holder noted are for the current attempt or for the whole call
  abbrev pub FreshBehind : Parts → Token C → Type 0
  FreshBehind w (Claimed f h) = Unit {0}
  FreshBehind w (Locked f rg at c o s h) = (o ≡ 0 → w.oldest ≢ 0 → IsFresh w.attempt w.oldest) × (s ≡ 0 → w.second ≢ 0 → IsFresh w.attempt w.second)
  FreshBehind w Leaving = Unit {0}

  -- what the seats know together: an id that one of them stored at an operation was made, and the words that they found have their errors in turn
  pub record Known (views : List (View C)) : Type 0 where
    pub named : (x id : ℕ) → x % 2 ≡ 0 → 0 < total (is_stored x id) (flat_map kept_in views) → 0 < total (is_made (id_first id)) (flat_map (notes_in (id_slot id)) views)
    pub in_turn : (i w : ℕ) → 0 < total (is_saw w) (flat_map (notes_in i) views) → InTurn (parts w)

  -- the rule of the ids, with that
  pub record Ruled (p : Plan) (s : State (Maybe C) (View C)) : Type 0 where
    pub lawful : Lawful p s
    pub fresh : (i : ℕ) → i < p.slots → Each (FreshBehind (local s i).word) (local s i).tokens
    pub known : Known s.views

  -- I7 by the seat that claimed the slot: each range of a word that it had seen taken there was an earlier one, and it had found the next id at no operation
  abbrev pub read_told : Step (Maybe C) → Me (Maybe C) (View C) → ℕ → Me (Maybe C) (View C) → Type 0
  read_told st m found n = (i seen : ℕ) (h : Hand C) → st.word ≡ id_index i → has_token i (Claimed seen h) m → Becomes m n (with_token i (Claimed (parts found).first h) m.0) × (1 ≤ (parts found).first) × ((parts found).first ≤ LAST)
      × ((w : ℕ) → 0 < total (is_saw w) (notes_in i m.0) → 0 < (parts w).state → (parts w).first < (parts found).first)
      × ((x : ℕ) → x % 2 ≡ 0 → total (is_at x (call_id i (parts found).first)) m.0.kept ≡ 0)

  -- I7: a word is never 0, and none that is found behind an id that the seat knows to be made, or advanced, has an earlier range
  abbrev pub see_told : Step (Maybe C) → Me (Maybe C) (View C) → ℕ → Me (Maybe C) (View C) → Type 0
  see_told st m found n = (i : ℕ) → st.word ≡ id_index i → Becomes m n (with_note i (Saw found) m.0) × (1 ≤ (parts found).first) × ((f : ℕ) → 0 < total (is_made f) (notes_in i m.0) → IsBehind f (parts found))
      × ((f : ℕ) → 0 < total (is_advance f) (notes_in i m.0) → IsBehind f (parts found))

  -- I3, and I4 on an open id: no word that was found before has a later range, and the range had advanced to no later attempt
  abbrev pub lock_told : Step (Maybe C) → Me (Maybe C) (View C) → ℕ → Me (Maybe C) (View C) → Type 0
  lock_told st m found n = (i : ℕ) → st.word ≡ id_index i
      → (found ≡ st.first → (c : C) × Becomes m n (locked_view i (parts found).first (parts found).range (parts found).attempt c m.0) × LockFits (parts found) × (((parts found).oldest ≡ 0) × ((parts found).second ≡ 0)) × FoundUpTo i (parts found).first m.0 × ReachedUpTo i (parts found).first (parts found).attempt m.0)
      × (found ≢ st.first → Becomes m n (with_note i (Saw found) m.0))

  -- I4 on a locked id: the same
  abbrev pub queue_told : Step (Maybe C) → Me (Maybe C) (View C) → ℕ → Me (Maybe C) (View C) → Type 0
  queue_told st m found n = (i : ℕ) → st.word ≡ id_index i
      → (found ≡ st.first → Becomes m n (with_note i (Queued (parts found).first (put_error (parts st.first) (parts st.second))) m.0) × FoundUpTo i (parts found).first m.0)
      × (found ≢ st.first → Becomes m n (with_note i (Saw found) m.0))

  -- I5: the word found is noted; where another one was expected, the errors in it are now noted
  abbrev pub unlock_told : Step (Maybe C) → Me (Maybe C) (View C) → ℕ → Me (Maybe C) (View C) → Type 0
  unlock_told st m found n = (i f rg at o s : ℕ) (c : C) → st.word ≡ id_index i → has_token i (Locked f rg at c o s (Full c)) m
      → (found ≡ st.first → Becomes m n (advanced_view i f (parts st.first).attempt (parts st.second).attempt (popped_view i f rg (parts st.second).attempt c (parts found).oldest (parts found).second (with_note i (Saw found) m.0))))
      × (found ≢ st.first → Becomes m n (with_token i (Locked f rg at c (parts found).oldest (parts found).second (Full c)) m.0) × Longer f rg at o s (parts found) × FreshBehind (parts found) (Locked f rg at c o s (Full c)))

  -- T2: where the seat stored or found a word before, there is one
  abbrev pub load_told : Step (Maybe C) → Me (Maybe C) (View C) → ℕ → Me (Maybe C) (View C) → Type 0
  load_told st m found n = Becomes m n (found_view st.word found m.0) × (0 < total (is_place st.word) m.0.kept → found ≢ 0)
