-- What becomes of an error for which a seat has the lock.
use Rattle.std.specs.Prelude.{◌≡◌, ℕ, ◌+◌, ◌⊎◌, Bool, true, false, Some, None}
use Rattle.std.specs.Prelude.{Option as Maybe}
use Rattle.sock_words.specs.ErrorCodes.{EINTERNAL}
use Rattle.corr_core.specs.IdSlotWord.{parts}
use Rattle.sock_message.specs.Asked.{Asked}
use Rattle.corr_id.specs.declared.calls.IdLock.{IdLock}
use Rattle.corr_id.specs.declared.unlocks.Unlocked.{Unlocked}
use Rattle.corr_id.specs.declared.unlocks.Unlocked.TheVariants.{Open, Next}
use Rattle.corr_id.specs.Unlocks.{UnlockOk}
use Rattle.call_table.specs.declared.errors.Decision.{Decision}
use Rattle.call_table.specs.declared.errors.Decision.TheVariants as decisions
use Rattle.call_table.specs.DecisionOnError.{decision_of}
use Rattle.call_errors.specs.declared.retries.Retry.{Retry}
use Rattle.call_errors.specs.ClientBooks.{CallStand, starving, keeping}
use Rattle.call_errors.specs.LockingByVersion.{id_in}
use Rattle.call_errors.specs.CallEndsWithCode.{EndedWith}

-- the error is for the whole call
abbrev pub is_whole : Maybe ℕ → Bool
is_whole None = true
is_whole (Some n) = false

-- what is done about it, by the range and the attempt of the lock
abbrev pub decision : IdLock Asked → ℕ → Maybe ℕ → Decision
decision k code attempt = decision_of (parts k.word.0).range (parts k.word.0).attempt code (is_whole attempt)

-- the retry of the attempt behind the current one
pub record IsNext (k : IdLock Asked) (r : Retry) : Type 0 where
  pub id_is : r.id ≡ id_in k
  pub attempt_is : r.attempt ≡ (parts k.word.0).attempt + 1

-- the attempt advanced as the lock was given back, with this answer, and the retry is kept
pub record Advanced (k : IdLock Asked) (answer : Unlocked Asked) (s t : CallStand) : Type 0 where
  pub unlocked : UnlockOk s.view t.view k.slot (parts k.word.0) k.content true answer
  pub retry : Retry
  pub is_next : IsNext k retry
  pub kept : t.books ≡ keeping retry s.books

-- the call ends with the error; it ends for want of memory, which was there before or is met as a retry is to be kept; its next
-- attempt waits; or it does, and the error that was handed out instead of the lock is handled
pub data Decided : CallStand → IdLock Asked → ℕ → Maybe ℕ → CallStand → Type 0 where
  ends : (s : CallStand) (k : IdLock Asked) (code : ℕ) (attempt : Maybe ℕ) (t : CallStand)
      → s.books.starved ≡ false → decision k code attempt ≡ decisions.End → EndedWith k code s t → Decided s k code attempt t
  starves : (s : CallStand) (k : IdLock Asked) (code : ℕ) (attempt : Maybe ℕ) (t : CallStand)
      → (s.books.starved ≡ true) ⊎ (decision k code attempt ≡ decisions.Retry)
      → EndedWith k EINTERNAL (record { view = s.view; books = starving s.books }) t → Decided s k code attempt t
  waits : (s : CallStand) (k : IdLock Asked) (code : ℕ) (attempt : Maybe ℕ) (t : CallStand)
      → s.books.starved ≡ false → decision k code attempt ≡ decisions.Retry → Advanced k Open s t → Decided s k code attempt t
  goes_on : (s : CallStand) (k : IdLock Asked) (code : ℕ) (attempt : Maybe ℕ) (t : CallStand) (u : CallStand) (l : IdLock Asked) (next : ℕ) (of : Maybe ℕ)
      → s.books.starved ≡ false → decision k code attempt ≡ decisions.Retry → Advanced k (Next l next of) s u → Decided u l next of t → Decided s k code attempt t
