-- What an unlocking says, by its answer.
use Rattle.std.specs.Prelude.{◌≡◌, ℕ, ◌+◌, ◌-◌, ◌*◌, ◌<◌, ◌==◌, ◌&&◌, not, Bool, IsTrue, if◌then◌else◌, List, [], ◌∷◌}
use Rattle.corr_core.specs.IdSlotWord.{Parts, parts, attempt_of, unlocked_word}
use Rattle.corr_core.specs.IdSlotLaw.{only}
use Rattle.corr_core.specs.declared.marks.Hand.TheVariants.{Empty, Full}
use Rattle.corr_core.specs.declared.marks.Token.TheVariants.{Locked}
use Rattle.corr_core.specs.declared.marks.View.{View}
use Rattle.corr_id.specs.declared.unlocks.Unlocked.{Unlocked}
use Rattle.corr_id.specs.declared.unlocks.Unlocked.TheVariants.{Open, Next}
use Rattle.id_rule.specs.LawfulIdTable.{tokens_in, notes_of}
use Rattle.id_rule.specs.IdPlays.{LockFits, Longer}
use Rattle.corr_id.specs.SeatBehindIdCalls.{Locks, Did, Found, is_saw, advance_note, error_in}
use Rattle.corr_id.specs.PostAnswers.{IsTimely}
use Rattle.sock_words.specs.PackedWords.{bit}
use Rattle.sock_words.specs.Totals.{total}

-- 1 where there is such an error and it is for another attempt
abbrev pub stale : ℕ → ℕ → ℕ
stale attempt e = if not (e == 0) && (not (attempt_of e == 7) && not (attempt_of e == attempt)) then 1 else 0

abbrev pub some_error : ℕ → ℕ
some_error e = if e == 0 then 0 else 1

-- how many exchanges are left at most: those that find more errors, and those that throw away a stale one
abbrev pub exchanges_left : Parts → Bool → ℕ
exchanges_left w step = 100 * bit step + 3 * (stale w.attempt w.oldest + stale w.attempt w.second) + (2 - (some_error w.oldest + some_error w.second))

-- the word q is the one behind the exchanges of an unlocking that replaced these words, the last first: it has the errors that the lock's word p had, or those
-- that the last exchange left, which took the oldest out, and perhaps more behind them. The exchanges leave the attempt `now`
abbrev pub Follows : Parts → ℕ → List ℕ → Parts → Type 0
Follows p now [] q = Longer p.first p.range p.attempt p.oldest p.second q
Follows p now (x ∷ xs) q = Longer (parts x).first (parts x).range now (parts x).second 0 q

-- each of the words that the exchanges replaced, the last first, is the one behind those before it
abbrev pub InSequence : Parts → ℕ → List ℕ → Type 0
InSequence p now [] = Unit {0}
InSequence p now (x ∷ xs) = Follows p now xs (parts x) × InSequence p now xs

-- the error that was taken out of each of these words is for another attempt than this one
abbrev pub ThrewAway : ℕ → List ℕ → Type 0
ThrewAway now [] = Unit {0}
ThrewAway now (x ∷ xs) = (stale now (parts x).oldest ≡ 1) × ThrewAway now xs

module _ {C : Type 0} (u w : View C) (slot : ℕ) (p : Parts) (c : C) (advance : Bool) where
  -- this call found these words in the slot, each as often, and no others
  abbrev pub FoundJust : List ℕ → Type 0
  FoundJust words = (x : ℕ) → total (is_saw x) (notes_of slot w.notes) ≡ total (only x) words + total (is_saw x) (notes_of slot u.notes)

  -- the exchanges before this word replaced these words, the last first; each took out an error that was stale
  pub record Before (q : Parts) : Type 0 where
    pub words : List ℕ
    pub found : FoundJust words
    pub sequence : InSequence p (p.attempt + bit advance) words
    pub thrown : ThrewAway (p.attempt + bit advance) words
    pub follows : Follows p (p.attempt + bit advance) words q

  -- of the word that the lock had, and the one that it has now: the advance was made where none is left to be made
  pub record Stepped (q : Parts) (step : Bool) : Type 0 where
    pub first_is : q.first ≡ p.first
    pub two : q.state ≡ 2
    pub fits : LockFits q
    pub attempt_is : q.attempt + bit step ≡ p.attempt + bit advance
    pub pending : IsTrue step → q.attempt ≡ p.attempt
    pub room : IsTrue step → q.attempt + 2 < q.range
    pub in_order : q.oldest ≡ 0 → q.second ≡ 0
    pub did : Did slot u w (Locked q.first q.range q.attempt c q.oldest q.second (Full c) ∷ []) (advance_note slot p q)

  -- the word that the last exchange replaced, and the one that it left. All errors that this call took out are those of the words found: the ones that the
  -- exchanges before it took out, in the order in which they were queued, were stale, and the last one took out the oldest error of `found`, if it had one
  pub record Replaced (found : ℕ) (q : Parts) : Type 0 where
    pub was_found : Found slot found w
    pub same_id : (parts found).first ≡ p.first
    pub was_locked : (parts found).state ≡ 2
    pub left : (step : Bool) × (q ≡ unlocked_word (parts found) (bit step))
    pub attempt_is : q.attempt ≡ p.attempt + bit advance
    pub before : List ℕ
    pub taken : FoundJust (found ∷ before)
    pub sequence : InSequence p (p.attempt + bit advance) (found ∷ before)
    pub thrown : ThrewAway (p.attempt + bit advance) before

  abbrev pub UnlockOk : Unlocked C → Type 0
  UnlockOk Open = (found : ℕ) × (q : Parts) × Replaced found q × ((parts found).oldest ≡ 0) × Did slot u w [] (advance_note slot p q)
  UnlockOk (Next k code attempt) = (k.slot ≡ slot) × (k.content ≡ c) × Locks slot w (parts k.word.0) c Empty × Did slot u w (tokens_in slot w) (advance_note slot p (parts k.word.0))
      × ((found : ℕ) × Replaced found (parts k.word.0) × ((parts found).oldest ≡ error_in code attempt) × IsTimely attempt (parts k.word.0).attempt)
