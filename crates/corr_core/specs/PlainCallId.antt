-- A call id as it is meant: a range of versions of one slot, and what happens to it.
use Rattle.std.specs.Prelude.{◌≡◌, ℕ, ◌+◌, ◌<◌, ◌≤◌, Bool, cond, ◌==◌, List, [], ◌∷◌, ◌++◌, length}
use Rattle.corr_core.specs.IdSlotWord.{Parts}
use Rattle.sock_words.specs.PackedWords.{bit}

pub data Phase : Type 0 where
  Open : Phase
  -- by which seat, and the queued errors
  Locked : ℕ → List ℕ → Phase
  Ended : Phase

pub record Plain : Type 0 where
  pub range : ℕ
  pub attempt : ℕ
  pub phase : Phase

-- each names the seat that makes it
pub data Event : Type 0 where
  Lock : ℕ → Event
  Queue : ℕ → ℕ → Event
  Unlock : ℕ → Bool → Event
  End : ℕ → Event

abbrev pub made : ℕ → Plain
made range = record { range = range; attempt = 0; phase = Open }

-- the queue without its oldest error; with none the id opens
abbrev pub unlocked : ℕ → List ℕ → Phase
unlocked who [] = Open
unlocked who (e ∷ es) = Locked who es

abbrev pub Happens : Event → Plain → Plain → Type 0
Happens (Lock who) p q = (p.phase ≡ Open) × (q ≡ record { range = p.range; attempt = p.attempt; phase = Locked who [] })
Happens (Queue who e) p q = (owner : ℕ) × (es : List ℕ) × (p.phase ≡ Locked owner es) × (length es < 2) × (q ≡ record { range = p.range; attempt = p.attempt; phase = Locked owner (es ++ e ∷ []) })
Happens (Unlock who advance) p q = (es : List ℕ) × (p.phase ≡ Locked who es) × (p.attempt + bit advance + 2 ≤ p.range) × (q ≡ record { range = p.range; attempt = p.attempt + bit advance; phase = unlocked who es })
Happens (End who) p q = (es : List ℕ) × (p.phase ≡ Locked who es) × (q ≡ record { range = p.range; attempt = p.attempt; phase = Ended })

abbrev pub Run : List Event → Plain → Plain → Type 0
Run [] p q = p ≡ q
Run (e ∷ es) p q = (m : Plain) × Happens e p m × Run es m q

abbrev pub is_end : Event → ℕ
is_end (End who) = 1
is_end _ = 0

abbrev pub ends : List Event → ℕ
ends [] = 0
ends (e ∷ es) = is_end e + ends es

abbrev pub queue : ℕ → ℕ → List ℕ
queue oldest second = cond (oldest == 0) [] (cond (second == 0) (oldest ∷ []) (oldest ∷ second ∷ []))

-- what a word says of the id whose first version is `first`, where `who` has locked it
pub data Reads (first who : ℕ) (w : Parts) (p : Plain) : Type 0 where
  reads_open : w.first ≡ first → w.state ≡ 1 → w.oldest ≡ 0 → w.second ≡ 0 → p ≡ record { range = w.range; attempt = w.attempt; phase = Open } → Reads first who w p
  reads_locked : w.first ≡ first → w.state ≡ 2 → (w.oldest ≡ 0 → w.second ≡ 0) → p ≡ record { range = w.range; attempt = w.attempt; phase = Locked who (queue w.oldest w.second) } → Reads first who w p
  reads_ended : first < w.first → p.phase ≡ Ended → Reads first who w p

-- whatever plain id the word `w` says of the range that it has, where `who` has that locked, the event happens to it, and `x` says what becomes of it
abbrev pub IsEvent : Event → (who : ℕ) → Parts → Parts → Type 0
IsEvent e who w x = (p : Plain) → Reads w.first who w p → (q : Plain) × Happens e p q × Reads w.first who x q

-- whatever happens to a plain id, it ends once at most, and nothing happens to it behind its end
pub record EndsOnce : Type 0 where
  pub once : (es : List Event) (p q : Plain) → Run es p q → ends es ≤ 1
  pub last : (es : List Event) (p q : Plain) → p.phase ≡ Ended → Run es p q → es ≡ []
