-- What becomes of an error that is posted to an id.
use Rattle.std.specs.Prelude.{◌≡◌, ℕ}
use Rattle.std.specs.Prelude.{Option as Maybe}
use Rattle.corr_core.specs.declared.marks.View.{View}
use Rattle.sock_message.specs.Asked.{Asked}
use Rattle.corr_id.specs.declared.posts.Posted.{Posted}
use Rattle.corr_id.specs.declared.posts.Posted.TheVariants.{Locked as HasLock, Queued as IsQueued, Gone, Stale, Crowded}
use Rattle.corr_id.specs.PostAnswers.{PostOk, PostedNow}
use Rattle.call_errors.specs.ClientBooks.{CallStand}
use Rattle.call_errors.specs.Handling.{Decided}

-- where the post locked the id, its error is handled; else nothing more is done
abbrev pub Handled : ℕ → Maybe ℕ → Posted Asked → CallStand → CallStand → Type 0
Handled code attempt (HasLock k) s t = Decided s k code attempt t
Handled code attempt IsQueued s t = t ≡ s
Handled code attempt (Gone found) s t = t ≡ s
Handled code attempt (Stale current) s t = t ≡ s
Handled code attempt (Crowded first second) s t = t ≡ s

-- the post had this answer
pub record PostedAs (slots : ℕ) (answer : Posted Asked) (s : CallStand) (id code : ℕ) (attempt : Maybe ℕ) (t : CallStand) : Type 0 where
  pub view : View Asked
  pub post : PostOk slots s.view view id code attempt answer
  pub now : PostedNow slots s.view view id code attempt answer
  pub handled : Handled code attempt answer (record { view = view; books = s.books }) t

abbrev pub PostedBy : ℕ → CallStand → ℕ → ℕ → Maybe ℕ → CallStand → Type 0
PostedBy slots s id code attempt t = (answer : Posted Asked) × PostedAs slots answer s id code attempt t
