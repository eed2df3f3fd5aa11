-- Ways in which an error is decided on.
use Rattle.std.proofs.Common.{◌≡◌, ℕ, ◌+◌, inl, inr, true, List, [], ◌∷◌, ◌++◌, ◌∙◌, subst}
use Rattle.std.specs.Prelude.{Option as Maybe}
use Rattle.sock_words.specs.ErrorCodes.{EINTERNAL}
use Rattle.corr_core.specs.IdSlotWord.{parts}
use Rattle.corr_core.specs.declared.marks.Token.{Token}
use Rattle.corr_core.specs.declared.marks.Noted.{Noted}
use Rattle.corr_core.specs.declared.marks.View.{View}
use Rattle.sock_message.specs.Asked.{Asked}
use Rattle.corr_id.specs.declared.calls.IdLock.{IdLock}
use Rattle.corr_id.specs.declared.unlocks.Unlocked.{Unlocked}
use Rattle.corr_id.specs.SeatBehindIdCalls.{Did}
use Rattle.corr_id.specs.Unlocks.{UnlockOk}
use Rattle.call_table.specs.declared.errors.Decision.TheVariants as decisions
use Rattle.call_errors.specs.declared.retries.Retry.{Retry}
use Rattle.call_errors.specs.ClientBooks.{Books, CallStand, starving, LetGo}
use Rattle.call_errors.specs.LockingByVersion.{id_in}
use Rattle.call_errors.specs.CallEndsWithCode.{EndedWith}
use Rattle.call_errors.specs.Handling.{decision, Advanced, Decided, starves}

module _ (k : IdLock Asked) (s t : CallStand) where
  -- memory was wanting before
  pub starves_before : (code : ℕ) (attempt : Maybe ℕ) → s.books.starved ≡ true → EndedWith k EINTERNAL s t → Decided s k code attempt t
  starves_before code attempt e h = let b = s.books in
      let same : b ≡ starving b = λ z. record { retries = b.retries; told = b.told; starved = e z } in
      starves s k code attempt t (inl e) (subst (λ (y : Books). EndedWith k EINTERNAL (record { view = s.view; books = y }) t) same h)

  -- no memory was there for the retry
  pub starves_here : (code : ℕ) (attempt : Maybe ℕ) (rs : List Retry) → decision k code attempt ≡ decisions.Retry → rs ≡ s.books.retries
      → EndedWith k EINTERNAL (record { view = s.view; books = record { retries = rs; told = s.books.told; starved = true } }) t → Decided s k code attempt t
  starves_here code attempt rs d e h = starves s k code attempt t (inr d)
      (subst (λ (y : List Retry). EndedWith k EINTERNAL (record { view = s.view; books = record { retries = y; told = s.books.told; starved = true } }) t) e h)

  -- room for the retry was made before
  pub advanced_from : (answer : Unlocked Asked) (rs : List Retry) → rs ≡ s.books.retries
      → Advanced k answer (record { view = s.view; books = record { retries = rs; told = s.books.told; starved = s.books.starved } }) t → Advanced k answer s t
  advanced_from answer rs e h = subst (λ (y : List Retry). Advanced k answer (record { view = s.view; books = record { retries = y; told = s.books.told; starved = s.books.starved } }) t) e h

-- the lock was given back, and the retry stands behind the others
pub advanced_by : (k : IdLock Asked) (answer : Unlocked Asked) (s : CallStand) (w : View Asked) (r : Retry) (rs : List Retry) → UnlockOk s.view w k.slot (parts k.word.0) k.content true answer
    → r.id ≡ id_in k → r.attempt ≡ (parts k.word.0).attempt + 1 → rs ≡ s.books.retries ++ r ∷ [] → Advanced k answer s (record { view = w; books = record { retries = rs; told = s.books.told; starved = s.books.starved } })
advanced_by k answer s w r rs u a b e = record {
  unlocked = u;
  retry = r;
  is_next = record { id_is = a; attempt_is = b };
  kept = λ z. record { retries = e z; told = s.books.told; starved = s.books.starved };
}

-- behind a step on the same slot
pub let_go_then : (i : ℕ) (u v w : View Asked) (ts : List (Token Asked)) (es : List (Noted Asked)) → Did i u v ts es → LetGo i v w → LetGo i u w
let_go_then i u v w ts es d l = record { nothing = l.nothing; others = λ j ne. l.others j ne ∙ d.others j ne }
