-- The same by the lines of the script: of links that no `send` names, and of calls by their operations.
use Rattle.std.proofs.Common.{◌≡◌, ℕ, List, Option, Some, refl, sym, ap, ◌∙◌, subst, arith}
use Rattle.std.specs.List.{AllByRecursion}
use Rattle.std.specs.Prelude.{slice_get, IsTrue, Contains}
use Rattle.sock_words.specs.declared.outcome.Outcome.{Outcome}
use Rattle.brpc_model.specs.Attempts.{IsResponse}
use Rattle.brpc_model.specs.Frame.{Frame}
use Rattle.brpc_model.specs.Items.{Item, Shape, CallLine, Send, Call}
use Rattle.brpc_model.specs.MessageOfLabel.{shown_id, request_frame}
use Rattle.brpc_model.specs.Operations.{Turn, Operation, operations, link_names, link_shapes}
use Rattle.brpc_model.specs.LinePlaceFaults.{names}
use Rattle.brpc_model.specs.Reply.{reply}
use Rattle.brpc_model.specs.FrameStream.{stream}
use Rattle.calm_runs.specs.send_causes.specs.Below.script_facts.proofs.FilteredLists.{Has, contains_from}
use Rattle.calm_runs.specs.send_causes.specs.Below.script_facts.proofs.NameNumbers.{same_name}
use Rattle.calm_runs.specs.send_causes.specs.Below.script_facts.proofs.OperationNumbering.{are_from}
use Rattle.calm_runs.specs.send_causes.specs.Below.script_facts.proofs.ReadScriptFacts.{InRange}
use Rattle.calm_runs.specs.send_causes.specs.Below.script_facts.proofs.Targets.{AreThere}
use Rattle.calm_runs.specs.send_causes.specs.Below.script_facts.proofs.TaskLemmas.{numbers_at, IsTaskOf, task_is, operation_task, open_asks, send_asks, mentions_open, mentions_send, named_at}
use Rattle.seat_programs.specs.declared.task.Op.TheVariants as ops
use Rattle.seat_programs.specs.declared.task.Task.{Task}
use Rattle.seat_programs.specs.Cores.{Core}
use Rattle.seat_programs.specs.Tasks.{numbered, asked_of, op_of}
use Rattle.seat_programs.specs.Explained.{IsTask, Made}
use Rattle.seat_programs.specs.ScriptSetupToEnding.{all_tasks, IsRunWithCalls}
use Rattle.calm_runs.specs.send_causes.specs.Below.joint_runs.proofs.RunsOfBothTables.{AreMade}
use Rattle.calm_runs.specs.send_causes.specs.Below.call_owing.specs.LivesOfLinks.{ClosesInRun}
use Rattle.calm_runs.specs.send_causes.specs.Below.call_stories.specs.LinkReadingLists.{gave_in}
use Rattle.served_runs.specs.OfferedReplies.{OffersInRun}
use Rattle.served_runs.specs.ServedLinks.{IsForCalls}
use Rattle.served_runs.proofs.ServedLinks.{gives_own_replies}

-- no `send` of the script is to the name of link k
abbrev pub IsUnnamed : List Item → ℕ → Type 0
IsUnnamed script k = (name bytes : List ℕ) → Contains script (Send name bytes) → slice_get (link_names script) k ≡ Some name → ⊥

-- so no task sends to a name of its socket
pub unsent_of : (script : List Item) (os : List (Option Outcome)) (k : ℕ) → IsUnnamed script k → (client : ℕ) (t : Task) (n slot version : ℕ) (bytes : List ℕ) → IsTask (all_tasks script) os client t → t.op ≡ ops.Send n bytes → Made (all_tasks script) os n k slot version → ⊥
unsent_of script os k none_ client t n slot version bytes it op life = by (task_is script os client t it) (task_is script os life.client life.task life.is)
  where
    by : IsTaskOf script client t → IsTaskOf script life.client life.task → ⊥
    by s o = let a = send_asks (numbered script) (names script) (numbers_at script t.number s.operation) s.operation.item n bytes (s.asks ∙ ap (λ x. Some x) op) in
        let b = open_asks (numbered script) (names script) (numbers_at script life.task.number o.operation) o.operation.item n k (o.asks ∙ ap (λ x. Some x) life.op) in
        let same : a.0 ≡ b.0 = same_name (names script) a.0 b.0 (mentions_send script t.number s.operation s.there a.0 bytes a.1) (mentions_open script life.task.number o.operation o.there b.0 b.1 b.2) (sym a.2 ∙ b.3) in
        none_ a.0 bytes (contains_from script (Send a.0 bytes) (subst (Has script) a.1 (are_from 0 1 script t.number s.operation s.there).there))
        (ap (slice_get (link_names script)) b.4 ∙ (named_at script life.task.number o.operation b.0 b.1 o.there b.2 ∙ ap (λ x. Some x) (sym same)))

module _ (script : List Item) (made : AreMade script) (there : AreThere script) (range : AllByRecursion InRange script) (turns : List Turn) (core : Core) (is : IsRunWithCalls script turns core) (closes : ClosesInRun script turns core is)
    (offers : OffersInRun script turns core is) (k : ℕ) (shape : Shape) (opened : slice_get (link_shapes script) k ≡ Some shape) (serves : IsTrue shape.serve) (unnamed : IsUnnamed script k) where
  for_calls : IsForCalls script turns core is k shape
  for_calls = record { opened = opened; serves = serves; unsent = unsent_of script core.outcomes k unnamed }

  -- each response of a call's versions is the reply to the call's own request
  pub link_own_replies : (n i id : ℕ) (frame : Frame) (op : Operation) (call : CallLine) (outcome : Outcome) → slice_get (stream (gave_in core k)).frames n ≡ Some frame → slice_get (operations script) i ≡ Some op → op.item ≡ Call call
      → slice_get core.outcomes i ≡ Some (Some outcome) → shown_id outcome ≡ Some id → IsResponse call id frame → reply (request_frame call frame.meta.correlation_id) ≡ Some frame
  link_own_replies n i id frame op call outcome stands at item became shows response =
      gives_own_replies script made there range turns core is closes offers k n id op.client shape frame (record { number = i; op = ops.Call (asked_of (names script) i call) }) (asked_of (names script) i call) outcome for_calls stands
      (operation_task script core.outcomes i op (ops.Call (asked_of (names script) i call)) at (ap (op_of (numbered script) (names script) (numbers_at script i op)) item)) refl became shows response.1 (let r = response.2 in omega (arith, r))
