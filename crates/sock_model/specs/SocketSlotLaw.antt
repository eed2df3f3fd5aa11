-- The law of one slot: its tag, its reference word, its link and its code, beside what all seats have and noted of it (bRPC's
-- versioned_ref_with_id.h; memory_management.md).
use Rattle.std.specs.Prelude.{◌≡◌, ◌≢◌, ℕ, ◌+◌, ◌-◌, ◌%◌, ◌<◌, ◌≤◌, List, cond, ◌==◌, nat_le, ◌&&◌}
use mathlib.Core.Option.{some}
use lib.ListN.{get_elem?}
use Rattle.sock_model.specs.declared.marks.Mark.{Mark}
use Rattle.sock_model.specs.MarkWeights.{tally, life, is_claimed, is_recycling, is_busy, is_ref, is_any_coding, is_tried, is_stage, is_recycled, is_hold, is_zero, is_coding, is_known, is_born, is_saw, is_failer, is_freer, is_coded, is_stored, is_told, is_linked, is_met}
use Rattle.sock_words.specs.Totals.{total}

-- all that the rule reads of one slot
pub record SlotFacts : Type 0 where
  pub tag : ℕ
  pub version : ℕ
  pub nref : ℕ
  pub link : ℕ
  pub code : ℕ
  pub marks : List (List Mark)

-- 1 where the slot is live, else 0: by its tag, its version and how many seats claimed or recycled it
unfoldable pub live_by : ℕ → ℕ → ℕ → ℕ
live_by t v b = cond ((t == 1) && ((v % 2 == 0) && (nat_le v 4294967292 && (b == 0)))) 1 0

abbrev pub live : SlotFacts → ℕ
live l = live_by l.tag l.version (tally is_busy l.marks)

abbrev pub count : (Mark → ℕ) → SlotFacts → ℕ
count f l = tally f l.marks

-- of each seat's marks
abbrev pub Each : List (List Mark) → (List Mark → Type 0) → Type 0
Each ms P = (j : ℕ) (m : List Mark) → get_elem? ms j ≡ some m → P m

-- a seat that stores a code holds the life and has seen it failed, and each life that it failed has one code, stored or yet to be
abbrev pub KeepsCodes : List Mark → Type 0
KeepsCodes m = ((h : ℕ) → total (is_failer h) m ≡ total (is_coding h) m + total (is_coded h) m)
    × ((h : ℕ) → 0 < total (is_coding h) m → (0 < total (is_hold h) m) × (0 < total (is_saw (h + 1)) m))

-- ## The law

-- In what follows lives begin at the version first, and lives is 1 where this slot is live, else 0.

-- its tag, and who claimed or recycled it
pub record TagLaw (first lives : ℕ) (l : SlotFacts) : Type 0 where
  -- the tag is 0 or 1
  pub tagged : l.tag ≤ 1
  -- one seat at most claimed or recycled the slot
  pub busy_once : count is_busy l ≤ 1
  -- then its tag is taken
  pub busy_taken : 0 < count is_busy l → l.tag ≡ 1
  -- and its version even
  pub busy_even : 0 < count is_busy l → l.version % 2 ≡ 0
  -- a free slot has an even version
  pub free_even : l.tag ≡ 0 → l.version % 2 ≡ 0
  -- which is none of the last
  pub free_low : l.tag ≡ 0 → l.version ≤ 4294967292
  -- as has a claimed one
  pub claimed_low : 0 < count is_claimed l → l.version ≤ 4294967292
  -- a recycled slot has the version to which it was recycled
  pub recycled : (w : ℕ) → 0 < count (is_recycled w) l → w ≡ l.version
  -- a slot that is taken, or was found taken, is claimed, or had a life
  pub taken_by : 0 < l.tag + count is_tried l → 0 < count is_claimed l + lives + (l.version - first)
  -- a claim's link is stored from stage 1, its code is 0 from stage 3
  pub staged : (n k : ℕ) → 0 < count (is_stage n k) l → (1 ≤ n → l.link ≡ k) × (3 ≤ n → l.code ≡ 0)

-- its reference word: how many refer to it, its version, and the lives that it had
pub record WordLaw (first lives : ℕ) (l : SlotFacts) : Type 0 where
  -- nref counts the references, and one more while the slot is live
  pub counted : l.nref ≡ lives + count is_ref l
  -- no seat has so many references that nref could overflow
  pub few : Each l.marks (λ m. total is_ref m ≤ 65540)
  -- where nobody refers to a failed slot, some seat has its exchange left
  pub zero_noted : l.version % 2 ≡ 1 → l.nref ≡ 0 → 0 < count (is_zero l.version) l
  -- versions begin at the first
  pub begun : first ≤ l.version
  -- and end before the last odd one
  pub top : l.version ≤ 4294967294
  -- a life that is held is the slot's last: live, or failed and not ended
  pub held : (h : ℕ) → 0 < count (is_hold h) l → (h + 1 ≡ l.version + lives) × (h % 2 ≡ 0)
  -- no version was seen that is yet to come
  pub saw : (w : ℕ) → 0 < count (is_saw w) l → w ≤ l.version
  -- each life that is known was born
  pub known : (h : ℕ) → 0 < count (is_known h) l → life first h (l.version + lives) ≡ 1
  -- each life that was born stands as Born once
  pub born : (h : ℕ) → count (is_born h) l ≡ life first h (l.version + lives)
  -- each that was failed stands as Failer once
  pub failed : (h : ℕ) → count (is_failer h) l ≡ life first h l.version
  -- each that ended stands as Freer once
  pub ended : (h : ℕ) → count (is_freer h) l ≡ life first h (l.version - 1)

-- its code
pub record CodeLaw (lives : ℕ) (l : SlotFacts) : Type 0 where
  -- what a seat failed it has coded, or is about to
  pub codes : Each l.marks KeepsCodes
  -- one code at most is about to be stored
  pub coding_once : count is_any_coding l ≤ 1
  -- while the slot is failed
  pub coding_odd : 0 < count is_any_coding l → l.version % 2 ≡ 1
  -- until then the code is 0
  pub code_none : 0 < lives + count is_any_coding l → l.code ≡ 0
  -- a code that was stored isn't 0, and stands until the next life
  pub code_is : (h c : ℕ) → 0 < count (is_stored h c) l → (c ≢ 0) × (h < l.version) × (h + 1 ≡ l.version → l.code ≡ c)
  -- it is that of a life
  pub code_even : (h c : ℕ) → 0 < count (is_stored h c) l → h % 2 ≡ 0
  -- a code that stands was stored for the life that failed
  pub code_by : l.version % 2 ≡ 1 → 0 < l.code → 0 < count (is_stored (l.version - 1) l.code) l
  -- a code that was found was stored
  pub told : (h c : ℕ) → 0 < count (is_told h c) l → 0 < count (is_stored h c) l

-- its link
pub record LinkLaw (first lives : ℕ) (l : SlotFacts) : Type 0 where
  -- a link was given to a life that was born
  pub link_low : (h k : ℕ) → 0 < count (is_linked h k) l → h < l.version + lives
  -- whose version is even
  pub link_even : (h k : ℕ) → 0 < count (is_linked h k) l → h % 2 ≡ 0
  -- and at least the first
  pub link_begun : (h k : ℕ) → 0 < count (is_linked h k) l → first ≤ h
  -- it stands in the slot until the slot is freed
  pub link_is : (h k : ℕ) → 0 < count (is_linked h k) l → l.version ≤ h + 1 + count is_recycling l → l.link ≡ k
  -- a live slot's link is its life's
  pub link_live : 0 < lives → 0 < count (is_linked l.version l.link) l
  -- a failed slot's too
  pub link_odd : l.version % 2 ≡ 1 → 0 < count (is_linked (l.version - 1) l.link) l
  -- and that of a slot that is being recycled
  pub link_last : 0 < count is_recycling l → 0 < count (is_linked (l.version - 2) l.link) l
  -- a link that was found was given
  pub met : (h k : ℕ) → 0 < count (is_met h k) l → 0 < count (is_linked h k) l

-- the law of one slot
pub record SlotLaw (first lives : ℕ) (l : SlotFacts) : Type 0 where
  pub tag : TagLaw first lives l
  pub open tag use *
  pub word : WordLaw first lives l
  pub open word use *
  pub code : CodeLaw lives l
  pub open code use *
  pub link : LinkLaw first lives l
  pub open link use *
