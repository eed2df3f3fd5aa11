-- Calls that are ended for want of memory leave no retry.
use Rattle.std.proofs.Common.{◌≡◌, ℕ, List, [], ◌∷◌, ap, ◌∙◌}
use Rattle.rpc_client.specs.declared.acting.Told.{Told}
use Rattle.call_errors.specs.declared.retries.Retry.{Retry}
use Rattle.call_errors.specs.ClientBooks.{Books, CallStand, Tells, told, lost}
use Rattle.call_errors.specs.Starving.{GivenUp, was_gone, ended, AllGivenUp, StarvedBy}

tells_retries : (x : Told) (b c : Books) → Tells x b c → c.retries ≡ b.retries
tells_retries x b c (told e) = ap (λ (k : Books). k.retries) e
tells_retries x b c (lost e) = ap (λ (k : Books). k.retries) e

given_up_retries : (slots id : ℕ) (s t : CallStand) → GivenUp slots id s t → t.books.retries ≡ s.books.retries
given_up_retries slots id s t (was_gone g e) = ap (λ (k : Books). k.retries) e
given_up_retries slots id s t (ended k v g e) = tells_retries _ s.books t.books e.tells

all_retries : (slots : ℕ) (rs : List Retry) (s t : CallStand) → AllGivenUp slots rs s t → t.books.retries ≡ s.books.retries
all_retries slots [] s t e = ap (λ (u : CallStand). u.books.retries) e
all_retries slots (r ∷ rs) s t h = all_retries slots rs h.0 t h.2 ∙ given_up_retries slots r.id s h.0 h.1

-- none waits any more
pub starved_retries : (slots : ℕ) (s t : CallStand) → StarvedBy slots s t → t.books.retries ≡ []
starved_retries slots s t h = all_retries slots s.books.retries _ t h
