-- The steps on the words of a slot, A1 to A8 and S1 to S5: the kind and the word of each, what it stores, what the view of the seat says before it,
-- what it may find, and the view behind it.
use Rattle.std.specs.Prelude.{ℕ, ◌≡◌, ◌≢◌, ◌+◌, ◌-◌, ◌%◌, ◌<◌, ◌≤◌, ◌⊎◌, ◌==◌, true, [], ◌∷◌, if◌then◌else◌, bit_or}
use mathlib.Core.Option.{Option, some}
use Rattle.sock_model.specs.sock_words.specs.declared.kind.Kind.{Kind}
use Rattle.sock_model.specs.sock_words.specs.declared.kind.Kind.TheVariants.{A1, A2, A3, A4, A5, A6, A7, A8, S1, S2, S3, S4, S5}
use Rattle.sock_model.specs.sock_words.specs.declared.plain.Plan.{Plan}
use Rattle.sock_model.specs.sock_words.specs.PackedWords.{socket_id_version, socket_id_slot, vref_version, vref_nref, IDLE, vref_unused}
use Rattle.sock_model.specs.declared.chain.Right.{Right}
use Rattle.sock_model.specs.declared.view.View.{View}
use Rattle.sock_model.specs.declared.view.Hand.{Hand}
use Rattle.sock_model.specs.MarkWeights.{only, is_ref, is_hold, is_zero, is_recycled, is_stage, is_coding, is_any_coding, is_busy, is_saw}
use Rattle.sock_model.specs.SlotRows.{marks_of, claimed, gave_birth, added, back, subbed, failed, recycled, freed, linked, staged, coded, met_link, looked, told_code}
use Rattle.sock_model.specs.ChainRows.{with_right}
use Rattle.sock_model.specs.LinksInSlots.{HoldsLink}
use Rattle.seat_programs.specs.Programs.{LAST_VERSION}
use Rattle.seat_programs.specs.TableWords.{TableWord, TagOf, RefOf, LinkOf, HeadOf, CodeOf}
use Rattle.seat_programs.specs.TableSteps.{SlotStep, ClaimSlot, CreateLife, AddRef, SubRef, SetOdd, Recycle, FreeSlot, LookWord, StoreLink, LoadLink, FindLink, ResetHead, ClearCode, StoreCode, LoadCode}
use Rattle.seat_programs.specs.StepViews.{Knows, HasRoom, HoldsLife, FindsLink, by_right}
use Rattle.sock_model.specs.ChainStepConditions.{KeepsRights}
use Rattle.sock_model.specs.sock_words.specs.Totals.{total}

-- ## The kind

-- as the schedule of a script names it
abbrev pub slot_kind : SlotStep → Kind
slot_kind (ClaimSlot i) = A1
slot_kind (CreateLife i k) = A2
slot_kind (AddRef id) = A3
slot_kind (SubRef i) = A4
slot_kind (SetOdd i) = A5
slot_kind (Recycle i from) = A6
slot_kind (FreeSlot i) = A7
slot_kind (LookWord id) = A8
slot_kind (StoreLink i k) = S1
slot_kind (LoadLink i w) = S2
slot_kind (FindLink i h) = S2
slot_kind (ResetHead i k) = S3
slot_kind (ClearCode i k) = S4
slot_kind (StoreCode i h c) = S4
slot_kind (LoadCode i h) = S5

-- ## The word

-- the word that a step reads or changes
abbrev pub word_of_slot : SlotStep → Option TableWord
word_of_slot (ClaimSlot i) = some (TagOf i)
word_of_slot (CreateLife i k) = some (RefOf i)
word_of_slot (AddRef id) = some (RefOf (socket_id_slot id))
word_of_slot (SubRef i) = some (RefOf i)
word_of_slot (SetOdd i) = some (RefOf i)
word_of_slot (Recycle i from) = some (RefOf i)
word_of_slot (FreeSlot i) = some (TagOf i)
word_of_slot (LookWord id) = some (RefOf (socket_id_slot id))
word_of_slot (StoreLink i k) = some (LinkOf i)
word_of_slot (LoadLink i w) = some (LinkOf i)
word_of_slot (FindLink i h) = some (LinkOf i)
word_of_slot (ResetHead i k) = some (HeadOf i)
word_of_slot (ClearCode i k) = some (CodeOf i)
word_of_slot (StoreCode i h c) = some (CodeOf i)
word_of_slot (LoadCode i h) = some (CodeOf i)

-- the word behind a step that found this one
abbrev pub slot_after : SlotStep → ℕ → ℕ
slot_after (ClaimSlot i) found = 1
slot_after (CreateLife i k) found = found + 1
slot_after (AddRef id) found = found + 1
slot_after (SubRef i) found = found - 1
slot_after (SetOdd i) found = bit_or found 4294967296
slot_after (Recycle i from) found = if found == from then vref_unused (vref_version from + 1) else found
slot_after (FreeSlot i) found = 0
slot_after (StoreLink i k) found = k
slot_after (ResetHead i k) found = IDLE
slot_after (ClearCode i k) found = 0
slot_after (StoreCode i h c) found = c
slot_after other found = found

-- ## Before a step

-- it writes no link, or that of the life of this id alone
abbrev pub MayLook : Plan → View → ℕ → Type 0
MayLook p v id = (v.rights ≡ []) ⊎ ((r : Right) × (v.rights ≡ r ∷ []) × HoldsLink p v (socket_id_slot id) (socket_id_version id) r.link)

-- what the view of the seat says before a step, so that the rule allows it
abbrev pub SlotMay : Plan → View → SlotStep → Type 0
SlotMay p v (ClaimSlot i) = i < p.slots
SlotMay p v (CreateLife i k) = (i < p.slots) × (0 < marks_of (is_stage 3 k) i v)
SlotMay p v (AddRef id) = Knows p v id × HasRoom v (socket_id_slot id)
SlotMay p v (SubRef i) = (i < p.slots) × (0 < marks_of is_ref i v) × (marks_of is_any_coding i v ≡ 0) × KeepsRights i v
SlotMay p v (SetOdd i) = (i < p.slots) × ((h : ℕ) × (0 < marks_of (is_hold h) i v)) × HasRoom v i
SlotMay p v (Recycle i from) = (i < p.slots) × (0 < marks_of (is_zero (vref_version from)) i v) × (vref_version from % 2 ≡ 1) × (vref_nref from ≡ 0) × (vref_version from < 4294967295)
SlotMay p v (FreeSlot i) = (i < p.slots) × ((w : ℕ) × (0 < marks_of (is_recycled w) i v) × (w ≤ LAST_VERSION)) × (v.hands ≡ [])
SlotMay p v (LookWord id) = (socket_id_slot id < p.slots) × MayLook p v id × (0 < marks_of (is_hold (socket_id_version id)) (socket_id_slot id) v)
SlotMay p v (StoreLink i k) = (i < p.slots) × (0 < marks_of (is_stage 0 0) i v) × (0 < total (only k) v.passes)
SlotMay p v (LoadLink i w) = (i < p.slots) × (0 < marks_of (is_recycled w) i v)
SlotMay p v (FindLink i h) = HoldsLife p v i h
SlotMay p v (ResetHead i k) = (i < p.slots) × (0 < marks_of (is_stage 1 k) i v)
SlotMay p v (ClearCode i k) = (i < p.slots) × (0 < marks_of (is_stage 2 k) i v)
SlotMay p v (StoreCode i h c) = (i < p.slots) × (0 < marks_of (is_coding h) i v) × (c ≢ 0)
SlotMay p v (LoadCode i h) = HoldsLife p v i h

-- ## What is found

-- the version, or the even one below it
abbrev pub even_version : ℕ → ℕ
even_version word = vref_version word - vref_version word % 2

-- where the seat holds a life of the slot, the word found is that of this life
abbrev pub IsOfHeld : View → ℕ → ℕ → Type 0
IsOfHeld v i found = (h : ℕ) → 0 < marks_of (is_hold h) i v → even_version found ≡ h

-- where it saw that life failed, the word found says so
abbrev pub FindsFailed : View → ℕ → ℕ → Type 0
FindsFailed v i found = (h : ℕ) → 0 < marks_of (is_hold h) i v → 0 < marks_of (is_saw (h + 1)) i v → vref_version found ≡ h + 1

-- what a step may find
abbrev pub SlotFinds : Plan → View → SlotStep → ℕ → Hand → Type 0
SlotFinds p v (CreateLife i k) found hand = (vref_nref found < 4294967295) × (vref_version found % 2 ≡ 0) × (vref_version found ≤ LAST_VERSION)
SlotFinds p v (AddRef id) found hand = vref_nref found < 4294967295
SlotFinds p v (SubRef i) found hand = (marks_of is_ref i v ≤ vref_nref found) × IsOfHeld v i found × (vref_version found < 4294967295)
SlotFinds p v (SetOdd i) found hand = IsOfHeld v i found
SlotFinds p v (FreeSlot i) found hand = marks_of is_busy i v ≤ 1
SlotFinds p v (LookWord id) found hand = IsOfHeld v (socket_id_slot id) found × FindsFailed v (socket_id_slot id) found
SlotFinds p v (LoadLink i w) found hand = (found < p.links) × (total (only found) v.passes ≡ 0)
SlotFinds p v (FindLink i h) found hand = FindsLink p v i h found
SlotFinds p v other found hand = Unit {0}

-- ## Behind a step

-- a look that found the life live makes the right clean
abbrev pub looked_clean : ℕ → ℕ → View → Right → View
looked_clean i found v r = if vref_version found % 2 == 0 then with_right (looked i found v) (record r { clean = true }) else looked i found v

-- the view behind a step that found this word, and this link at home
abbrev pub slot_row : Plan → SlotStep → ℕ → Hand → View → View
slot_row p (ClaimSlot i) found hand v = claimed i found v
slot_row p (CreateLife i k) found hand v = gave_birth i found k v
slot_row p (AddRef id) found hand v = added (socket_id_slot id) found (vref_version found == socket_id_version id) v
slot_row p (SubRef i) found hand v = subbed i found (back i found v) v
slot_row p (SetOdd i) found hand v = failed i found v
slot_row p (Recycle i from) found hand v = recycled i from found v
slot_row p (FreeSlot i) found hand v = freed i v
slot_row p (LookWord id) found hand v = by_right v.rights (looked_clean (socket_id_slot id) found v) (looked (socket_id_slot id) found v)
slot_row p (StoreLink i k) found hand v = linked i k v
slot_row p (LoadLink i w) found hand v = met_link i (w - 2) found v
slot_row p (FindLink i h) found hand v = met_link i h found v
slot_row p (ResetHead i k) found hand v = staged i 1 k 2 v
slot_row p (ClearCode i k) found hand v = staged i 2 k 3 v
slot_row p (StoreCode i h c) found hand v = coded i h c v
slot_row p (LoadCode i h) found hand v = if found == 0 then v else told_code i h found v
