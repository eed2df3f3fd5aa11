-- What the lists of all seats say at the end.
use Rattle.std.specs.Prelude.{◌≡◌, ◌≢◌, ℕ, ◌+◌, ◌<◌, ◌≤◌, cond, nat_lt, List, slice_index}
use mathlib.Core.Option.{some}
use lib.ListN.{get_elem?}
use Rattle.corr_core.specs.IdSlotWord.{parts}
use Rattle.corr_core.specs.IdSlotLaw.{is_made, is_ended, is_ended_at, is_locker, is_queued, is_advance, is_attempt, is_tried, is_any_made}
use Rattle.corr_core.specs.declared.marks.Plan.{Plan}
use Rattle.corr_core.specs.declared.marks.Note.TheVariants.{Made, Locker}
use Rattle.corr_core.specs.declared.marks.Noted.{Noted}
use Rattle.corr_core.specs.declared.marks.Kept.{Kept}
use Rattle.id_rule.specs.LawfulIdTable.{notes_of, is_stored}
use Rattle.corr_id.specs.SeatBehindIdCalls.{is_saw}
use Rattle.sock_words.specs.Totals.{total}

module _ {C : Type 0} where
  -- 1 for a note that an id was made in one of the first n slots
  abbrev pub is_making : ℕ → Noted C → ℕ
  is_making n h = cond (nat_lt h.slot n) (is_any_made h.note) 0

  -- over the lists of all seats; `words` are the last words of the slots
  pub record Closing (p : Plan) (notes : List (Noted C)) (kept : List Kept) (words : List ℕ) : Type 0 where
    pub made_once : (i f : ℕ) → i < p.slots → total (is_made f) (notes_of i notes) ≤ 1
    pub ended_once : (i f : ℕ) → i < p.slots → total (is_ended f) (notes_of i notes) ≤ 1
    pub advanced_once : (i f n : ℕ) → i < p.slots → total (is_attempt f n) (notes_of i notes) ≤ 1
    -- an id advances to each attempt behind the first, one after the other
    pub one_by_one : (i f n : ℕ) → i < p.slots → 0 < total (is_attempt f n) (notes_of i notes) → (0 < n) × ((m : ℕ) → 0 < m → m < n → 0 < total (is_attempt f m) (notes_of i notes))
    -- and to none behind the one at which it ended
    pub ended_at : (i f n m : ℕ) → i < p.slots → 0 < total (is_ended_at f n) (notes_of i notes) → n < m → total (is_attempt f m) (notes_of i notes) ≡ 0
    -- a content that a lock gave is the one with which its id was made
    pub locked_made : (i f k : ℕ) (c : C) → i < p.slots → get_elem? (notes_of i notes) k ≡ some (Locker f c) → (r j : ℕ) × (get_elem? (notes_of i notes) j ≡ some (Made f r c))
    -- a range that was made has ended exactly where the slot's word has a later first version, and so where a later one was found
    pub ended_is : (i f : ℕ) → i < p.slots → f < (parts (slice_index words i)).first → total (is_ended f) (notes_of i notes) ≡ total (is_made f) (notes_of i notes)
    pub ended_not : (i f : ℕ) → i < p.slots → (parts (slice_index words i)).first ≤ f → total (is_ended f) (notes_of i notes) ≡ 0
    pub later_is : (i f w : ℕ) → i < p.slots → 0 < total (is_saw w) (notes_of i notes) → f < (parts w).first → total (is_ended f) (notes_of i notes) ≡ total (is_made f) (notes_of i notes)
    -- no two ranges of a slot have a version in common, and what advanced was made
    pub ranges_apart : (i f g r s j k : ℕ) (c d : C) → i < p.slots → get_elem? (notes_of i notes) j ≡ some (Made f r c) → get_elem? (notes_of i notes) k ≡ some (Made g s d) → f < g → f + r ≤ g
    pub advanced_made : (i f n : ℕ) → i < p.slots → 0 < total (is_attempt f n) (notes_of i notes) → 0 < total (is_made f) (notes_of i notes)
    -- a word that was found open or locked has a range that was made, as long as it was made
    pub range_is : (i w : ℕ) → i < p.slots → 0 < total (is_saw w) (notes_of i notes) → 0 < (parts w).state → (c : C) × (j : ℕ) × (get_elem? (notes_of i notes) j ≡ some (Made (parts w).first (parts w).range c))
    -- a word that was found locked, with errors queued, or at an attempt
    pub locked_is : (i w : ℕ) → i < p.slots → 0 < total (is_saw w) (notes_of i notes) → (parts w).state ≡ 2 → 0 < total (is_locker (parts w).first) (notes_of i notes)
    pub oldest_is : (i w : ℕ) → i < p.slots → 0 < total (is_saw w) (notes_of i notes) → 0 < (parts w).state → (parts w).oldest ≢ 0 → 0 < total (is_queued (parts w).first (parts w).oldest) (notes_of i notes)
    pub second_is : (i w : ℕ) → i < p.slots → 0 < total (is_saw w) (notes_of i notes) → 0 < (parts w).state → (parts w).second ≢ 0 → 0 < total (is_queued (parts w).first (parts w).second) (notes_of i notes)
    pub in_turn : (i w : ℕ) → i < p.slots → 0 < total (is_saw w) (notes_of i notes) → (parts w).state ≡ 2 → (parts w).oldest ≡ 0 → (parts w).second ≡ 0
    pub attempts_are : (i w : ℕ) → i < p.slots → 0 < total (is_saw w) (notes_of i notes) → 0 < (parts w).state → (parts w).attempt ≤ total (is_advance (parts w).first) (notes_of i notes)
    -- a slot that was found taken has an id
    pub full : (i : ℕ) → i < p.slots → 0 < total is_tried (notes_of i notes) → 0 < total is_any_made (notes_of i notes)
    -- a word of an operation that was found is one that a seat stored
    pub found_stored : (k : Kept) (j : ℕ) → get_elem? kept j ≡ some k → 0 < total (is_stored k.place k.word) kept
