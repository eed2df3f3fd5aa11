-- Each task of a run, with calls or without, has an outcome, or its message was accepted: where each operation has an outcome or a place.
use Rattle.std.proofs.Common.{◌≡◌, ℕ, ◌*◌, ◌<◌, ◌≤◌, ◌⊎◌, inl, inr, List, length, slice_get, Option, Some, None, arith}
use Rattle.std.proofs.lemmas.Option.{slice_get_within}
use Rattle.sock_words.specs.declared.outcome.Outcome.{Outcome}
use Rattle.brpc_model.specs.Items.{Item}
use Rattle.brpc_model.specs.Operations.{operations}
use Rattle.brpc_model.specs.PlaceWords.{HasEachOutcome}
use Rattle.seat_programs.specs.declared.task.Task.{Task}
use Rattle.seat_programs.specs.Cores.{Core}
use Rattle.seat_programs.specs.ScriptSetupToEnding.{all_tasks, place_words}
use Rattle.seat_programs.specs.Tasks.{plan_of}
use Rattle.seat_programs.specs.Explained.{IsTask, Became}
use Rattle.seat_programs.specs.ExplainedCalls.{Accepted, Order, Fixed, StandsOn, IsSent, OfSend, OfCall}
use Rattle.sock_deeds.specs.script_facts.proofs.FilteredLists.{all_at, within}
use Rattle.sock_deeds.specs.script_facts.proofs.TaskLemmas.{task_is}
use Rattle.sock_deeds.specs.SocketsTold.{IsAttempt, ToldSockets}
use Rattle.callless_fits.proofs.AcceptedPlaceWords.{HasMessage, accepted_at}

-- where each call has one attempt
abbrev pub none_tried : ℕ → ℕ
none_tried operation = 0

module _ (script : List Item) (outcomes : List (Option Outcome)) (fixed : Fixed) (gave : ℕ → List ℕ) (orders : ℕ → Order) (core : Core)
    (tells : ToldSockets (plan_of script) (all_tasks script) outcomes fixed gave orders core) where
  abbrev pub IsSentHere : ℕ → Accepted → Type 0
  IsSentHere k a = IsSent (plan_of script) (all_tasks script) outcomes fixed gave orders none_tried k a

  few_sent : (k : ℕ) (a : Accepted) → IsSentHere k a → a.attempt < 8
  few_sent k a (OfSend client t name slot version is numbered op first made untold) = omega (arith, first)
  few_sent k a (OfCall client t asked outcome id slot version is numbered op became shows few frame made) = let low : a.attempt ≤ 0 = few in omega (arith, low)

  few : (k : ℕ) (a : Accepted) → IsSentHere k a ⊎ IsAttempt (all_tasks script) outcomes k a → a.attempt < 8
  few k a (inl s) = few_sent k a s
  few k a (inr h) = (let low = h.low in omega arith)

  module _ (long : length outcomes ≡ length (operations script)) (each : HasEachOutcome (place_words (plan_of script) core.words) outcomes) where
    abbrev pub IsTold : ℕ → Type 0
    IsTold number = ((outcome : Outcome) × Became (all_tasks script) outcomes number outcome) ⊎ ((k : ℕ) × StandsOn (plan_of script) (all_tasks script) outcomes fixed gave orders number 0 k)

    by_message : (number : ℕ) → HasMessage (plan_of script) orders (8 * number) → IsTold number
    by_message number w =
        let less = few w.0 w.2 (all_at (λ a. IsSentHere w.0 a ⊎ IsAttempt (all_tasks script) outcomes w.0 a) (orders w.0).accepted w.2 (tells.sent none_tried w.0 w.3) (w.1, w.4)) in
        let own : w.2.operation ≡ number = omega (arith, less, w.5) in
        let first : w.2.attempt ≡ 0 = omega (arith, less, w.5) in inr (w.0, (w.1, (w.3, w.2, w.4, own, first)))

    by_said : (number : ℕ) → number < length (operations script) → (said : Option Outcome) → slice_get outcomes number ≡ Some said → IsTold number
    by_said number low (Some outcome) e = inl (outcome, e)
    by_said number low None e = by_message number (accepted_at (plan_of script) core orders tells.are_orders (8 * number) (omega (arith, low)) (each number e))

    pub told_each : (client : ℕ) (t : Task) → IsTask (all_tasks script) outcomes client t → IsTold t.number
    told_each client t is =
        let w = task_is script outcomes client t is in
        let low = slice_get_within (operations script) t.number w.operation w.there in
        let said = within outcomes t.number (omega (arith, low, long)) in by_said t.number low said.0 said.1
