-- What becomes of an `expire` and of a `join` of the call that is an operation.
use Rattle.std.specs.Prelude.{◌≡◌, ◌≢◌, ℕ, ◌<◌, ◌≤◌, ◌⊎◌, false, None}
use Rattle.sock_words.specs.ErrorCodes.{ERPCTIMEDOUT}
use Rattle.sock_words.specs.declared.outcome.Outcome.{Outcome}
use Rattle.sock_words.specs.declared.outcome.Outcome.TheVariants as outcome
use Rattle.corr_core.specs.IdSlotWord.{parts}
use Rattle.corr_core.specs.declared.marks.Plan.{Plan}
use Rattle.corr_core.specs.declared.marks.View.{View}
use Rattle.corr_id.specs.id_rule.specs.LawfulIdTable.{call_index, with_kept}
use Rattle.sock_message.specs.Asked.{Asked}
use Rattle.corr_id.specs.declared.posts.Posted.{Posted}
use Rattle.corr_id.specs.declared.posts.Posted.TheVariants.{Locked as HasLock, Queued as IsQueued, Gone, Stale, Crowded}
use Rattle.corr_id.specs.SeatBehindIdCalls.{Quiet, Found, FoundNow, LacksId}
use Rattle.corr_id.specs.LocksByAttempt.{IsKnown}
use Rattle.corr_id.specs.Ruled.{is_place}
use Rattle.call_errors.specs.declared.asking.Ask.{Ask}
use Rattle.call_errors.specs.declared.asking.Ask.TheVariants.{Expire, Join}
use Rattle.call_errors.specs.ClientBooks.{CallStand}
use Rattle.call_errors.specs.PostedErrors.{PostedAs}
use Rattle.sock_words.specs.PackedWords.{id_slot, id_first}
use Rattle.sock_words.specs.Totals.{total}

-- the operation's word was 0, and the seat knew of no id there
pub record FoundNone (p : Plan) (operation : ℕ) (s t : CallStand) : Type 0 where
  pub unknown : total (is_place (call_index p operation)) s.view.kept ≡ 0
  pub same : t ≡ s

-- it had this id, which the seat keeps in mind
abbrev pub found_id : Plan → ℕ → ℕ → CallStand → CallStand
found_id p operation id s = record { view = with_kept (call_index p operation) false id s.view; books = s.books }

-- the outcome by the answer of the post
abbrev pub outcome_by : Posted Asked → Outcome
outcome_by (HasLock k) = outcome.Expired
outcome_by IsQueued = outcome.Queued
outcome_by (Gone found) = outcome.Late
outcome_by (Stale current) = outcome.Late
outcome_by (Crowded first second) = outcome.Crowded first second

-- the end of its time was posted to the whole call
pub record TimedOut (p : Plan) (operation : ℕ) (by : Outcome) (s t : CallStand) : Type 0 where
  pub id : ℕ
  pub some : id ≢ 0
  pub answer : Posted Asked
  pub posted : PostedAs p.slots answer (found_id p operation id s) id ERPCTIMEDOUT None t
  pub by_answer : by ≡ outcome_by answer

abbrev pub ExpiredBy : Plan → ℕ → Outcome → CallStand → CallStand → Type 0
ExpiredBy p operation outcome.NotBegun s t = FoundNone p operation s t
ExpiredBy p operation outcome.Expired s t = TimedOut p operation outcome.Expired s t
ExpiredBy p operation outcome.Queued s t = TimedOut p operation outcome.Queued s t
ExpiredBy p operation outcome.Late s t = TimedOut p operation outcome.Late s t
ExpiredBy p operation (outcome.Crowded first second) s t = TimedOut p operation (outcome.Crowded first second) s t
ExpiredBy p operation _ s t = ⊥

-- there is no such slot, or a word was found there without the id: by this call, and of a later range where the seat knew of the id that it was made
pub record SawEnd (p : Plan) (operation : ℕ) (s t : CallStand) : Type 0 where
  pub id : ℕ
  pub some : id ≢ 0
  pub view : View Asked
  pub quiet : Quiet (found_id p operation id s).view view
  pub gone : (p.slots ≤ id_slot id) ⊎ ((word : ℕ) × Found (id_slot id) word view × LacksId (parts word) (id_first id))
  pub gone_now : id_slot id < p.slots → (word : ℕ) × FoundNow (id_slot id) word s.view view × LacksId (parts word) (id_first id)
  pub ended : id_slot id < p.slots → IsKnown (id_slot id) (id_first id) s.view → (word : ℕ) × FoundNow (id_slot id) word s.view view × (id_first id < (parts word).first)
  pub after : t ≡ record { view = view; books = s.books }

abbrev pub JoinedBy : Plan → ℕ → Outcome → CallStand → CallStand → Type 0
JoinedBy p operation outcome.NotBegun s t = FoundNone p operation s t
JoinedBy p operation outcome.Joined s t = SawEnd p operation s t
JoinedBy p operation _ s t = ⊥

-- by what was asked
abbrev pub AskedBy : Ask → Plan → ℕ → Outcome → CallStand → CallStand → Type 0
AskedBy Expire p operation by s t = ExpiredBy p operation by s t
AskedBy Join p operation by s t = JoinedBy p operation by s t
