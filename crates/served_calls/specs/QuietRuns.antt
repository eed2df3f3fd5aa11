-- Runs in which nothing went wrong, and what a call on links with the server has then.
use Rattle.std.specs.Prelude.{ℕ, ◌≡◌, ◌+◌, ◌<◌, ◌≤◌, ◌⊎◌, List, [], length, slice_get, Some, None, IsTrue, Contains}
use Rattle.brpc_model.specs.LinkFailureCauses.{HasFault, reading_limit}
use Rattle.brpc_model.specs.Complete.{Gives}
use Rattle.brpc_model.specs.Frame.{Frame}
use Rattle.brpc_model.specs.Items.{Item, Shape}
use Rattle.brpc_model.specs.ReturnedLink.{LinkEnd}
use Rattle.brpc_model.specs.Meta.{ResponseMeta}
use Rattle.brpc_model.specs.Operations.{Operation, Turn, link_names, link_shapes, operations}
use Rattle.brpc_model.specs.Reply.{reply}
use Rattle.sock_words.specs.declared.outcome.Outcome.{Outcome}
use Rattle.sock_words.specs.declared.outcome.Outcome.TheVariants.{Unopened}
use Rattle.sock_message.specs.Asked.{Asked, name_of}
use Rattle.seat_programs.specs.declared.task.Op.TheVariants as ops
use Rattle.seat_programs.specs.declared.task.Task.{Task}
use Rattle.seat_programs.specs.Asides.{AtEnd, Broken}
use Rattle.seat_programs.specs.ReaderProgram.{LIMIT}
use Rattle.seat_programs.specs.Cores.{Core}
use Rattle.seat_programs.specs.Tasks.{plan_of}
use Rattle.seat_programs.specs.Explained.{IsTask, Made}
use Rattle.seat_programs.specs.ExplainedCalls.{Fixed, Order, FoundNone, IsUnordered, WasFull}
use Rattle.seat_programs.specs.ScriptSetupToEnding.{all_tasks, IsRunWithCalls}
use Rattle.served_runs.specs.Below.outcome_stories.specs.Facts.{late_links_of_run}
use Rattle.served_runs.specs.Below.run_theorems.specs.Heard.{heard_takes, given_by}
use Rattle.served_runs.specs.Below.call_stories.specs.LinkReadingLists.{gave_in}
use Rattle.served_runs.specs.ServedLinks.{request_with}

-- the call with this outcome has what the reply to the request of its first attempt gives
abbrev pub HasReply : Asked → Outcome → Type 0
HasReply asked outcome = (id : ℕ) × (frame : Frame) × (r : ResponseMeta) × (reply (request_with asked (id + 1)) ≡ Some frame) × (frame.meta.response ≡ Some r) × Gives id r.code frame outcome

module _ (script : List Item) (turns : List Turn) (core : Core) (is : IsRunWithCalls script turns core) where
  -- link k was opened with the server
  abbrev pub HasServer : ℕ → Type 0
  HasServer k = (shape : Shape) × (slice_get (link_shapes script) k ≡ Some shape) × IsTrue shape.serve

  -- links with the server gave less than is read at most
  abbrev pub GivesFew : Type 0
  GivesFew = (k : ℕ) → HasServer k → length (gave_in core k) < LIMIT

  -- what the list of early readings shows, as the links tell it, and which links show that a take failed
  abbrev pub AreShown : Fixed → List LinkEnd → Type 0
  AreShown fixed ends = ((k : ℕ) → Contains fixed.early k → (k < length (link_names script)) × (Contains (heard_takes is k) AtEnd ⊎ (HasFault (given_by (heard_takes is k)) ⊎ ((reading_limit ≤ length (given_by (heard_takes is k))) ⊎ Contains (heard_takes is k) Broken))))
      × ((k : ℕ) (e : LinkEnd) → Contains ends e → e.link ≡ k → Contains (heard_takes is k) Broken → 0 < e.take_faults)

  module _ (fixed : Fixed) (orders : ℕ → Order) where
    -- what the list of readings that ended early shows
    abbrev pub AreEarly : Type 0
    AreEarly = (k : ℕ) → Contains fixed.early k → Contains (heard_takes is k) AtEnd ⊎ (HasFault (gave_in core k) ⊎ ((LIMIT ≤ length (gave_in core k)) ⊎ Contains (heard_takes is k) Broken))

    -- nothing of the script, and nothing that the links did, can make a call fail
    pub record IsQuiet : Type 0 where
      pub no_fail : (client : ℕ) (t : Task) (name code : ℕ) → IsTask (all_tasks script) core.outcomes client t → t.op ≡ ops.Fail name code → ⊥
      pub no_end : (k : ℕ) (shape : Shape) → slice_get (link_shapes script) k ≡ Some shape → shape.end ≡ None
      -- no put of a link with the server failed, and no take
      pub none_broken : (k : ℕ) → HasServer k → Contains fixed.broken k → ⊥
      pub whole : (k : ℕ) → HasServer k → Contains (heard_takes is k) Broken → ⊥
      -- a link without the server gave nothing, and one with it less than is read at most
      pub silent : (k : ℕ) (shape : Shape) → slice_get (link_shapes script) k ≡ Some shape → (IsTrue shape.serve → ⊥) → gave_in core k ≡ []
      pub few : GivesFew
      -- and no `send` is to its socket
      pub no_stray : (k client : ℕ) (t : Task) (name slot version : ℕ) (bytes : List ℕ) → HasServer k → IsTask (all_tasks script) core.outcomes client t → t.op ≡ ops.Send name bytes → Made (all_tasks script) core.outcomes name k slot version → ⊥
      -- there are requests for all attempts
      pub unfull : (client : ℕ) (t : Task) (asked : Asked) → IsTask (all_tasks script) core.outcomes client t → t.op ≡ ops.Call asked → IsUnordered (plan_of script) (all_tasks script) core.outcomes fixed (gave_in core) orders t.number 0
          → WasFull (plan_of script) (all_tasks script) core.outcomes fixed (gave_in core) orders → ⊥
      -- no attempt of a call was begun or ended while the run was ending, and no link became a socket's then
      pub none_late : (client : ℕ) (t : Task) (asked : Asked) → IsTask (all_tasks script) core.outcomes client t → t.op ≡ ops.Call asked → Contains fixed.late t.number → ⊥
      pub no_late_link : (k : ℕ) → Contains fixed.late_links k → ⊥
      pub in_time : (k : ℕ) → Contains (late_links_of_run script turns core is) k → ⊥

    -- no operation had a step while the run was ending, and no link became a socket's then
    pub record IsTimely : Type 0 where
      pub none_late : (o : ℕ) (op : Operation) → slice_get (operations script) o ≡ Some op → Contains fixed.late o → ⊥
      pub no_late_link : (k : ℕ) → Contains fixed.late_links k → ⊥
      pub in_time : (k : ℕ) → Contains (late_links_of_run script turns core is) k → ⊥

    -- a call whose first name has links with the server alone
    abbrev pub IsForServers : Asked → Type 0
    IsForServers asked = (k slot version : ℕ) → Made (all_tasks script) core.outcomes (name_of asked 0) k slot version → HasServer k

    -- no `expire` names the operation
    abbrev pub IsUnexpired : ℕ → Type 0
    IsUnexpired o = (client : ℕ) (t : Task) → IsTask (all_tasks script) core.outcomes client t → t.op ≡ ops.Expire o → ⊥

    -- the call has its reply, or its name had no socket yet
    abbrev pub CallIsDone : ℕ → ℕ → Asked → Outcome → Type 0
    CallIsDone client o asked outcome = HasReply asked outcome ⊎ ((outcome ≡ Unopened) × FoundNone (plan_of script) (all_tasks script) core.outcomes fixed (gave_in core) orders client o (name_of asked 0))
