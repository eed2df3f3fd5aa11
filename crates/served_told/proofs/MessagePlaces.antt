-- Where the messages stand that links accepted: what stands at a place of a link's line in the report is one of them, at that place of the link's order.
use Rattle.std.proofs.Common.{◌≡◌, ℕ, ◌<◌, ◌≤◌, List, slice_get, Option, Some, Ok, sym, ap, ◌∙◌, subst, arith}
use Rattle.std.specs.List.{AllByRecursion}
use Rattle.sock_words.specs.declared.outcome.Outcome.{Outcome}
use Rattle.brpc_model.specs.Items.{Item}
use Rattle.brpc_model.specs.Operations.{Label}
use Rattle.brpc_model.specs.PlaceWords.{IsLineOf}
use Rattle.brpc_model.specs.Report.{LinkLine}
use Rattle.brpc_model.specs.Script.{script_of}
use Rattle.served_calls.specs.Below.script_facts.proofs.Flat.{at_map}
use Rattle.served_calls.specs.Below.script_facts.proofs.AcceptedMessageLabels as labels
use Rattle.served_calls.specs.Below.script_facts.proofs.FilteredLists.{all_at, has_from}
use Rattle.served_calls.specs.Below.report_fits.proofs.OrdersOfPlaceWords as lines
use Rattle.served_calls.specs.Below.script_facts.proofs.ScriptSizes.{keeps_limits}
use Rattle.served_calls.specs.Below.script_facts.proofs.ReadScriptTasks.{tasks_of_script}
use Rattle.sock_message.specs.Asked.{Asked}
use Rattle.seat_programs.specs.declared.task.Op.TheVariants as ops
use Rattle.seat_programs.specs.declared.task.Task.{Task}
use Rattle.seat_programs.specs.Cores.{Core}
use Rattle.seat_programs.specs.ScriptSetupToEnding.{all_tasks, place_words}
use Rattle.seat_programs.specs.Tasks.{plan_of}
use Rattle.seat_programs.specs.Explained.{AreTasks, AskedFits, OpFits, TaskFits, IsTask}
use Rattle.seat_programs.specs.ExplainedCalls.{Accepted, Order, Fixed, AreOrders, StandsAt, IsSent, OfSend, OfCall}
use Rattle.failed_told.specs.attempts_told.specs.CountedAttempts.{AreAttemptsTold}

-- ## Tasks

module _ (script : List Item) (are : AreTasks (plan_of script) (all_tasks script)) (outcomes : List (Option Outcome)) (client : ℕ) (t : Task) (it : IsTask (all_tasks script) outcomes client t) where
  pub task_fits : TaskFits (plan_of script) t
  task_fits = all_at (TaskFits (plan_of script)) it.0 t (all_at (AllByRecursion (TaskFits (plan_of script))) (all_tasks script) it.0 are.fit (client, it.1)) (has_from it.0 t it.2)

  pub asked_fits : (asked : Asked) → t.op ≡ ops.Call asked → AskedFits (plan_of script) asked
  asked_fits asked op = subst (OpFits (plan_of script)) op task_fits.1

-- ## Messages

module _ (bytes : List ℕ) (script : List Item) (reads : script_of bytes ≡ Ok script) (outcomes : List (Option Outcome)) (fixed : Fixed) (gave : ℕ → List ℕ) (orders : ℕ → Order) (core : Core) (are_orders : AreOrders (plan_of script) core orders)
    (attempts : AreAttemptsTold (plan_of script) (all_tasks script) outcomes fixed gave orders) where
  abbrev Sent_ : ℕ → Accepted → Type 0
  Sent_ k a = IsSent (plan_of script) (all_tasks script) outcomes fixed gave orders attempts.last k a

  abbrev are : AreTasks (plan_of script) (all_tasks script)
  are = tasks_of_script bytes script reads

  -- its operation is one of the script, which has eight labels
  label_low : (k : ℕ) (a : Accepted) → Sent_ k a → (a.operation < (plan_of script).operations) × (a.attempt < 8)
  label_low k a (OfSend client t name slot version it number op first life untold) = (let low = (task_fits script are outcomes client t it).0 in omega (arith, low, number), omega (arith, first))
  label_low k a (OfCall client t asked outcome id slot version it number op became shows last bytes life) =
      let low = (task_fits script are outcomes client t it).0 in
      let range = (asked_fits script are outcomes client t it asked op).range_high in
      let few_ = attempts.few client t asked it op in
      let same = ap attempts.last number in
      (omega (arith, low, number), omega (arith, range, few_, same, last))

  sent_low : (k i : ℕ) (a : Accepted) → k < (plan_of script).links → StandsAt orders k i a → (a.operation < (plan_of script).operations) × (a.attempt < 8)
  sent_low k i a low at = label_low k a (all_at (Sent_ k) (orders k).accepted a (attempts.sent k low) (i, at))

  pub inside : (k i : ℕ) (a : Accepted) → k < (plan_of script).links → StandsAt orders k i a → (i < 4294967295) × (a.operation < (plan_of script).operations) × (a.attempt < 8)
  inside = labels.inside (plan_of script).links orders are_orders.apart (plan_of script).operations (keeps_limits bytes script reads).operations sent_low

  pub few_links : (plan_of script).links ≤ 65536
  few_links = let limits = keeps_limits bytes script reads in omega (arith, limits.links)

  -- ## A link's line

  -- what stands there at a place that is placed is a placed message
  pub placed_at : (k i : ℕ) (said : List ℕ) (line : LinkLine) (l : Label) → k < (plan_of script).links → IsLineOf (place_words (plan_of script) core.words) k said line → slice_get line.order i ≡ Some l → i < line.placed
      → (a : Accepted) × StandsAt orders k i a × (i < (orders k).placed) × (a.operation ≡ l.operation) × (a.attempt ≡ l.attempt)
  placed_at k i said line l low is there placed =
      let w = at_map lines.label_of (orders k).accepted i l (ap (λ ls. slice_get ls i) (sym (lines.order_is (plan_of script) core orders are_orders few_links inside k said line low is)) ∙ there) in
      let same = lines.placed_is (plan_of script) core orders are_orders few_links inside k said line low is in
      (w.0, w.1, omega (arith, placed, same), ap (λ (x : Label). x.operation) w.2, ap (λ (x : Label). x.attempt) w.2)
