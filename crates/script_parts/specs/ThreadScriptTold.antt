-- What is reported of a script that was run on threads, and why its calls ended so.
use Rattle.std.specs.Prelude.{ℕ, ◌≡◌, ◌≢◌, ◌⊎◌, ◌+◌, ◌<◌, ◌≤◌, List, [], ◌∷◌, ◌++◌, replicate, Option, Some, None}
use Rattle.sock_words.specs.declared.plain.Plan.{Plan}
use Rattle.sock_words.specs.declared.outcome.Outcome.{Outcome}
use Rattle.sock_words.specs.declared.outcome.Outcome.TheVariants.{Expired, CallFailed}
use Rattle.sock_words.specs.declared.place_word.PlaceWord.{PlaceWord}
use Rattle.brpc_model.specs.Items.{Item}
use Rattle.brpc_model.specs.ReturnedLink.{LinkEnd}
use Rattle.brpc_model.specs.MessageOfLabel.{shown_id}
use Rattle.brpc_model.specs.PlaceWords.{ArePlaces, HasEachOutcome, IsReportText, AreTold}
use Rattle.sock_message.specs.Asked.{Asked, name_of}
use Rattle.seat_programs.specs.declared.task.Op.TheVariants as ops
use Rattle.seat_programs.specs.declared.task.Task.{Task}
use Rattle.seat_programs.specs.Explained.{IsTask, Became}
use Rattle.seat_programs.specs.ExplainedCalls.{Fixed, Order, WhyExpire, WhyAgain, FailedBy}
use Rattle.calls_done.specs.failed_reasons.specs.CallsEndedByReading.{EndedByReading}
use Rattle.rpc_client.specs.declared.acting.Told.{Told}
use Rattle.script_parts.specs.OutcomesSaidByNumber.{said_by_each}

-- what became of so many operations: by what each client told of its own, of the calls that it ended, and by what was told of those that ended behind them
abbrev pub outcomes_of : ℕ → List (List Told) → List (List Told) → List Told → List (Option Outcome)
outcomes_of n told ended read = said_by_each (replicate n None) ((told ++ ended) ++ read ∷ [])

-- the text reports these outcomes and place words, and what these links took
pub record IsReported (script : List Item) (text : List ℕ) (outcomes : List (Option Outcome)) (places : List PlaceWord) (ends : List LinkEnd) : Type 0 where
  -- the place words tell an order of each link, and each operation has an outcome, or is a message with a place
  pub are_places : ArePlaces places
  pub each : HasEachOutcome places outcomes
  -- what is reported that the links took
  pub took : List (List ℕ)
  pub told : AreTold ends took
  pub report : IsReportText script outcomes places took text

-- Why each `expire` of these clients has its outcome, why each call that failed has its code, also one that whoever read the links ended, over the links that were given back, and why each attempt of a call but the last was followed by another, by what became of all others.
-- No call was ended twice by an `expire`; and each call has versions of its own
pub record AreCallsTold (p : Plan) (clients : List (List Task)) (outcomes : List (Option Outcome)) (fixed : Fixed) (gave : ℕ → List ℕ) (orders : ℕ → Order) (last : ℕ → ℕ) (ends : List LinkEnd) : Type 0 where
  pub expires : (client of : ℕ) (t : Task) (by : Outcome) → IsTask clients outcomes client t → t.op ≡ ops.Expire of → Became clients outcomes t.number by → WhyExpire p clients outcomes fixed gave orders last client t.number of by
  pub expired_once : (c d of : ℕ) (t u : Task) → IsTask clients outcomes c t → IsTask clients outcomes d u → t.op ≡ ops.Expire of → u.op ≡ ops.Expire of → Became clients outcomes t.number Expired → Became clients outcomes u.number Expired → t.number ≡ u.number
  pub failed : (client id code : ℕ) (t : Task) (asked : Asked) → IsTask clients outcomes client t → t.op ≡ ops.Call asked → Became clients outcomes t.number (CallFailed id code) → FailedBy p clients outcomes fixed gave orders client t.number asked id code (last t.number) ⊎ EndedByReading p clients outcomes fixed gave orders ends client t.number asked id code (last t.number)
  pub again : (client : ℕ) (t : Task) (asked : Asked) → IsTask clients outcomes client t → t.op ≡ ops.Call asked → (n : ℕ) → n < last t.number → WhyAgain p clients outcomes fixed gave orders client t.number n (name_of asked n)
  -- no two calls have a version in common
  pub versions : (c d : ℕ) (t u : Task) (a b : Asked) (x y : Outcome) (i j : ℕ) → IsTask clients outcomes c t → IsTask clients outcomes d u → t.op ≡ ops.Call a → u.op ≡ ops.Call b → Became clients outcomes t.number x → Became clients outcomes u.number y
      → shown_id x ≡ Some i → shown_id y ≡ Some j → t.number ≢ u.number → (i + a.range ≤ j) ⊎ (j + b.range ≤ i)
