-- The retries that wait are given up for want of memory.
use Rattle.std.specs.Prelude.{◌≡◌, ℕ, true, List, [], ◌∷◌}
use Rattle.sock_words.specs.ErrorCodes.{EINTERNAL}
use Rattle.corr_core.specs.declared.marks.View.{View}
use Rattle.sock_message.specs.Asked.{Asked}
use Rattle.corr_id.specs.declared.calls.IdLock.{IdLock}
use Rattle.call_errors.specs.declared.retries.Retry.{Retry}
use Rattle.call_errors.specs.ClientBooks.{CallStand}
use Rattle.call_errors.specs.LockingByVersion.{GotBy, GoneBy}
use Rattle.call_errors.specs.CallEndsWithCode.{EndedWith}

-- the call with this id ends, unless it has ended
pub data GivenUp (slots id : ℕ) (s t : CallStand) : Type 0 where
  was_gone : GoneBy slots id s.view t.view → t.books ≡ s.books → GivenUp slots id s t
  ended : (k : IdLock Asked) (v : View Asked) → GotBy slots id k s.view v → EndedWith k EINTERNAL (record { view = v; books = s.books }) t → GivenUp slots id s t

-- one after the other
abbrev pub AllGivenUp : ℕ → List Retry → CallStand → CallStand → Type 0
AllGivenUp slots [] s t = t ≡ s
AllGivenUp slots (r ∷ rs) s t = (u : CallStand) × GivenUp slots r.id s u × AllGivenUp slots rs u t

-- each retry that waited, the oldest first; none waits any more
abbrev pub StarvedBy : ℕ → CallStand → CallStand → Type 0
StarvedBy slots s t = AllGivenUp slots s.books.retries (record { view = s.view; books = record { retries = []; told = s.books.told; starved = true } }) t
