-- The word of a step: where it is, and what it becomes.
use Rattle.std.specs.Prelude.{ℕ, ◌≡◌, ◌+◌, ◌<◌, ◌≤◌, ◌==◌, if◌then◌else◌, IsTrue}
use Rattle.corr_core.specs.declared.marks.Plan.{Plan}
use Rattle.corr_core.specs.IdSlotWord.{parts, made_word, posted_word, unlocked_word, free_word}
use Rattle.corr_core.specs.IdTableLayout.{tag_index, id_index, call_index, at_index}
use Rattle.seat_programs.specs.PostPrograms.{packed}
use Rattle.id_points.specs.IdsAndAttemptNumbers.{id_of}
use Rattle.call_points.specs.declared.aside.Aside.{Aside}
use Rattle.call_points.specs.declared.aside.Aside.TheVariants.{ClaimId, PutCall, MakeId, StoreCall, LoadCall, StoreAt, LoadAt, LoadIdWord, LockId, PostId, UnlockId, EndId, FreeId, TakeCall, TakeBytes}
use Rattle.sock_words.specs.PackedWords.{bit}

abbrev pub index_of : Plan → Aside → ℕ
index_of p (ClaimId i) = tag_index i
index_of p (PutCall i) = tag_index i
index_of p (MakeId i range) = id_index i
index_of p (StoreCall o id) = call_index p o
index_of p (LoadCall o) = call_index p o
index_of p (StoreAt o w) = at_index p o
index_of p (LoadAt o) = at_index p o
index_of p (LoadIdWord i) = id_index i
index_of p (LockId i from) = id_index i
index_of p (PostId i from e) = id_index i
index_of p (UnlockId i from advance) = id_index i
index_of p (EndId i) = id_index i
index_of p (FreeId i) = tag_index i
index_of p (TakeCall i) = 0
index_of p (TakeBytes k room) = 0

-- what an exchange from this word to that one leaves
abbrev pub left_by : ℕ → ℕ → ℕ → ℕ
left_by from next found = if found == from then next else found

abbrev pub next_of : Aside → ℕ → ℕ
next_of (ClaimId i) found = 1
next_of (PutCall i) found = found
next_of (MakeId i range) found = packed (made_word (parts found).first range)
next_of (StoreCall o id) found = id_of id
next_of (LoadCall o) found = found
next_of (StoreAt o w) found = w.0
next_of (LoadAt o) found = found
next_of (LoadIdWord i) found = found
next_of (LockId i from) found = left_by from.0 (packed (posted_word (parts from.0) 0)) found
next_of (PostId i from e) found = left_by from.0 (packed (posted_word (parts from.0) e.0)) found
next_of (UnlockId i from advance) found = left_by from.0 (packed (unlocked_word (parts from.0) (bit advance))) found
next_of (EndId i) found = packed (free_word ((parts found).first + (parts found).range))
next_of (FreeId i) found = 0
next_of (TakeCall i) found = found
next_of (TakeBytes k room) found = found

-- the slot or the operation is one of the table; a call, and bytes of a link, are no word
abbrev pub IsWithin : Plan → Aside → Type 0
IsWithin p (ClaimId i) = i < p.slots
IsWithin p (PutCall i) = ⊥
IsWithin p (MakeId i range) = i < p.slots
IsWithin p (StoreCall o id) = o < p.operations
IsWithin p (LoadCall o) = o < p.operations
IsWithin p (StoreAt o w) = o < p.operations
IsWithin p (LoadAt o) = o < p.operations
IsWithin p (LoadIdWord i) = i < p.slots
IsWithin p (LockId i from) = i < p.slots
IsWithin p (PostId i from e) = i < p.slots
IsWithin p (UnlockId i from advance) = i < p.slots
IsWithin p (EndId i) = i < p.slots
IsWithin p (FreeId i) = i < p.slots
IsWithin p (TakeCall i) = ⊥
IsWithin p (TakeBytes k room) = ⊥

-- the word that the step stores has room for its parts
abbrev pub WordFits : Aside → ℕ → Type 0
WordFits (ClaimId i) found = Unit {0}
WordFits (PutCall i) found = Unit {0}
WordFits (MakeId i range) found = (1 ≤ range) × (range ≤ 8)
WordFits (StoreCall o id) found = Unit {0}
WordFits (LoadCall o) found = Unit {0}
WordFits (StoreAt o w) found = Unit {0}
WordFits (LoadAt o) found = Unit {0}
WordFits (LoadIdWord i) found = Unit {0}
WordFits (LockId i from) found = (parts from.0).state ≡ 1
WordFits (PostId i from e) found = e.0 < 32768
WordFits (UnlockId i from advance) found = ((parts from.0).state ≡ 2) × (IsTrue advance → (parts from.0).attempt + 2 < (parts from.0).range)
WordFits (EndId i) found = (parts found).first + (parts found).range < 67108864
WordFits (FreeId i) found = Unit {0}
WordFits (TakeCall i) found = Unit {0}
WordFits (TakeBytes k room) found = Unit {0}
