-- What is asked of a step on a word of a slot, and what a seat's view must say before it.
use Rattle.std.specs.Prelude.{◌≡◌, ℕ, ◌<◌, ◌≤◌, Bool, true, []}
use Rattle.sock_words.specs.declared.plain.Plan.{Plan}
use Rattle.sock_words.specs.PackedWords.{vref_version}
use Rattle.sock_model.specs.declared.view.View.{View}
use Rattle.sock_model.specs.MarkWeights.{is_ref, is_any_coding, is_hold, is_known, is_zero, is_stage, is_recycled}
use Rattle.sock_model.specs.SlotRows.{marks_of}
use Rattle.sock_model.specs.KeepingSocketRule.{KeepsRule}
use Rattle.sock_model.specs.ChainStepConditions.{KeepsRights}

-- the rule is kept by a step on the word at place x, whose row is a function of the view
abbrev pub KeepsSlotRule : (may : Plan → View → Type 0) → (x found next : ℕ) → (View → View) → Type 0
KeepsSlotRule may x found next row = KeepsRule may (λ p. x) found next (λ p v m. row v)

-- ## What a seat's view must say before a step on slot i

-- nothing: the slot is one of the table
abbrev pub MayClaim : ℕ → Plan → View → Type 0
MayClaim i p v = i < p.slots

-- one more reference may be counted; to a life only where the seat knows its id
abbrev pub MayAdd : ℕ → ℕ → Bool → Plan → View → Type 0
MayAdd i found is_life p v = (i < p.slots) × (is_life ≡ true → 0 < marks_of (is_known (vref_version found)) i v) × (marks_of is_ref i v < 65540)

abbrev pub MaySub : ℕ → Plan → View → Type 0
MaySub i p v = (i < p.slots) × (0 < marks_of is_ref i v) × (marks_of is_any_coding i v ≡ 0) × KeepsRights i v

-- it holds a life of the slot
abbrev pub MayFail : ℕ → Plan → View → Type 0
MayFail i p v = (i < p.slots) × ((h : ℕ) × (0 < marks_of (is_hold h) i v)) × (marks_of is_ref i v < 65540)

-- it took the references to 0 at this word's version
abbrev pub MayRecycle : ℕ → ℕ → Plan → View → Type 0
MayRecycle i from p v = (i < p.slots) × (0 < marks_of (is_zero (vref_version from)) i v)

-- it recycled the slot to a version with which it may be given again, and has nothing in hand
abbrev pub MayFree : ℕ → Plan → View → Type 0
MayFree i p v = (i < p.slots) × ((w : ℕ) × (0 < marks_of (is_recycled w) i v) × (w ≤ 4294967292)) × (v.hands ≡ [])

-- it claimed the slot, and stored the link, the idle head and the code
abbrev pub MayBear : ℕ → ℕ → Plan → View → Type 0
MayBear i k p v = (i < p.slots) × (0 < marks_of (is_stage 3 k) i v)
