-- In a script without calls each task is on sockets alone.
use Rattle.std.proofs.Common.{◌≡◌, ℕ, true, false, List, slice_get, Option, Some, refl, sym, ap, ◌∙◌}
use Rattle.sock_words.specs.declared.outcome.Outcome.{Outcome}
use Rattle.brpc_model.specs.Items.{Item, Call, Expire, Join}
use Rattle.brpc_model.specs.Operations.{Operation, operations}
use Rattle.brpc_model.specs.LinePlaceFaults.{names}
use Rattle.seat_programs.specs.declared.task.Op.{Op}
use Rattle.seat_programs.specs.declared.task.Op.TheVariants as ops
use Rattle.seat_programs.specs.declared.task.Task.{Task}
use Rattle.seat_programs.specs.ScriptSetupToEnding.{all_tasks, is_callless, is_later}
use Rattle.seat_programs.specs.Tasks.{numbered}
use Rattle.seat_programs.specs.Explained.{IsTask}
use Rattle.sock_deeds.specs.report_fits.proofs.CalllessScript.{not_later}
use Rattle.sock_deeds.specs.script_facts.proofs.OperationNumbering.{are_from}
use Rattle.sock_deeds.specs.script_facts.proofs.TaskLemmas.{numbers_at, asks_at, task_is, call_asks, expire_asks, join_asks}
use Rattle.sock_deeds.specs.SocketsTold.{IsOfSockets}

module _ (script : List Item) (callless : is_callless script ≡ true) where
  none_later : (i : ℕ) (q : Operation) → slice_get (operations script) i ≡ Some q → (item : Item) → q.item ≡ item → is_later item ≡ true → ⊥
  none_later i q there item is later = let no : true ≡ false = sym later ∙ (ap is_later (sym is) ∙ not_later script callless q.item (are_from 0 1 script i q there).there) in cc

  on_sockets : (i : ℕ) (q : Operation) → slice_get (operations script) i ≡ Some q → (op : Op) → asks_at script i q ≡ Some op → IsOfSockets op
  on_sockets i q there (ops.Call asked) e = let w = call_asks (numbered script) (names script) (numbers_at script i q) q.item asked e in none_later i q there (Call w.0) w.1 refl
  on_sockets i q there (ops.Expire t) e = let w = expire_asks (numbered script) (names script) (numbers_at script i q) q.item t e in none_later i q there (Expire w.0 w.1) w.2 refl
  on_sockets i q there (ops.Join t) e = let w = join_asks (numbered script) (names script) (numbers_at script i q) q.item t e in none_later i q there (Join w.0 w.1) w.2 refl
  on_sockets i q there other e = tt

  pub of_sockets : (outcomes : List (Option Outcome)) (client : ℕ) (t : Task) → IsTask (all_tasks script) outcomes client t → IsOfSockets t.op
  of_sockets outcomes client t is = let w = task_is script outcomes client t is in on_sockets t.number w.operation w.there t.op w.asks
