-- What is told of the sockets of a run is what is told of a run of a script without calls, once each operation has an outcome or a place.
use Rattle.std.proofs.Common.{◌≡◌, ℕ, ◌<◌, ◌⊎◌, inl, inr, true, List, length, Option, subst}
use Rattle.std.specs.List.{AllByRecursion}
use Rattle.sock_words.specs.declared.outcome.Outcome.{Outcome}
use Rattle.brpc_model.specs.Items.{Item}
use Rattle.brpc_model.specs.Operations.{operations}
use Rattle.brpc_model.specs.PlaceWords.{HasEachOutcome}
use Rattle.sock_message.specs.Asked.{Asked}
use Rattle.seat_programs.specs.declared.task.Op.{Op}
use Rattle.seat_programs.specs.declared.task.Op.TheVariants as ops
use Rattle.seat_programs.specs.declared.task.Task.{Task}
use Rattle.seat_programs.specs.Cores.{Core}
use Rattle.seat_programs.specs.ScriptSetupToEnding.{all_tasks, is_callless, place_words}
use Rattle.seat_programs.specs.Tasks.{plan_of}
use Rattle.seat_programs.specs.Explained.{IsTask}
use Rattle.seat_programs.specs.ExplainedCalls.{Accepted, Order, Fixed, AreOrders, ExplainedCalls}
use Rattle.sock_deeds.specs.script_facts.proofs.FilteredLists.{all_map}
use Rattle.sock_deeds.specs.SocketsTold.{IsOfSockets, IsAttempt, ToldSockets}
use Rattle.callless_fits.proofs.EachTaskHasOutcome.{IsSentHere, none_tried, told_each}
use Rattle.callless_fits.proofs.Socketed.{of_sockets}

-- what the closed table left, with these outcomes
abbrev pub core_with : Core → List (Option Outcome) → Core
core_with core outcomes = record { words = core.words; homes = core.homes; seats = core.seats; outcomes = outcomes; calls = core.calls }

module _ (script : List Item) (callless : is_callless script ≡ true) (outcomes : List (Option Outcome)) (fixed : Fixed) (gave : ℕ → List ℕ) (orders : ℕ → Order) (core : Core)
    (tells : ToldSockets (plan_of script) (all_tasks script) outcomes fixed gave orders core) where
  abbrev Sent : ℕ → Accepted → Type 0
  Sent k a = IsSentHere script outcomes fixed gave orders core tells k a

  no_call : (client number : ℕ) (asked : Asked) → IsTask (all_tasks script) outcomes client record { number = number; op = ops.Call asked } → ⊥
  no_call client number asked is = of_sockets script callless outcomes client (record { number = number; op = ops.Call asked }) is

  -- a task with such an operation is none of the script's
  none_such : (client : ℕ) (t : Task) (op : Op) → IsTask (all_tasks script) outcomes client t → t.op ≡ op → (IsOfSockets op → ⊥) → ⊥
  none_such client t op is e not = not (subst IsOfSockets e (of_sockets script callless outcomes client t is))

  -- each message is that of a `send`
  sent_one : (k : ℕ) (a : Accepted) → Sent k a ⊎ IsAttempt (all_tasks script) outcomes k a → Sent k a
  sent_one k a (inl s) = s
  sent_one k a (inr h) = absurd (no_call h.client a.operation h.asked h.is)

  all_sent : (k : ℕ) → k < (plan_of script).links → AllByRecursion (Sent k) (orders k).accepted
  all_sent k low = all_map (λ a. Sent k a ⊎ IsAttempt (all_tasks script) outcomes k a) (Sent k) (sent_one k) (orders k).accepted (tells.sent none_tried k low)

  module _ (long : length outcomes ≡ length (operations script)) (each : HasEachOutcome (place_words (plan_of script) core.words) outcomes) where
    orders_still : AreOrders (plan_of script) (core_with core outcomes) orders
    orders_still = let o = tells.are_orders in record { written = o.written; alone = o.alone; within = o.within; taken = o.taken; apart = o.apart }

    -- all that is told of the run
    pub told_callless : ExplainedCalls (plan_of script) (all_tasks script) outcomes fixed gave orders (core_with core outcomes)
    told_callless = record {
      last = none_tried;
      are_orders = orders_still;
      told = told_each script outcomes fixed gave orders core tells long each;
      are = tells.are;
      once = tells.once;
      lives = tells.lives;
      why = λ client t outcome is became. tells.why none_tried client t outcome is became (of_sockets script callless outcomes client t is);
      again = λ client t asked is op. absurd (none_such client t (ops.Call asked) is op (λ h. h));
      sent = all_sent;
      own_order = tells.own_order;
      dropped = tells.dropped;
      expired_once = λ c d t u o is also op other first second. absurd (none_such c t (ops.Expire o) is op (λ h. h));
      versions = λ c d t u a b x y i j is also op other first second shows its ne. absurd (none_such c t (ops.Call a) is op (λ h. h));
    }
