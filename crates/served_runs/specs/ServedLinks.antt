-- Which links of a run gave the replies to all that they took.
use Rattle.std.specs.Prelude.{ℕ, ◌≡◌, ◌<◌, ◌≤◌, ◌+◌, List, [], ◌++◌, length, slice_get, slice_index_or, Some, IsTrue, Contains}
use Rattle.brpc_model.specs.LinkFailureCauses.{HasFault}
use Rattle.brpc_model.specs.Frame.{Frame}
use Rattle.brpc_model.specs.Items.{Item, Shape}
use Rattle.brpc_model.specs.MessageOfLabel.{shown_id}
use Rattle.brpc_model.specs.Operations.{Turn, link_shapes}
use Rattle.brpc_model.specs.Reply.{reply}
use Rattle.brpc_model.specs.ServedForTakenBytes.{given_for}
use Rattle.brpc_model.specs.FrameStream.{stream}
use Rattle.sock_words.specs.declared.outcome.Outcome.{Outcome}
use Rattle.sock_message.specs.Asked.{Asked, meta_with}
use Rattle.seat_programs.specs.declared.task.Op.TheVariants as ops
use Rattle.seat_programs.specs.declared.task.Task.{Task}
use Rattle.seat_programs.specs.Asides.{AtEnd, Broken}
use Rattle.seat_programs.specs.ReaderProgram.{LIMIT}
use Rattle.seat_programs.specs.Cores.{Core}
use Rattle.seat_programs.specs.Tasks.{plan_of}
use Rattle.seat_programs.specs.Explained.{IsTask, Became, Made}
use Rattle.seat_programs.specs.ScriptSetupToEnding.{all_tasks, took_at_home, IsRunWithCalls}
use Rattle.calm_runs.specs.send_causes.specs.Below.outcome_stories.specs.Facts.{late_links_of_run}
use Rattle.calm_runs.specs.send_causes.specs.Below.run_theorems.specs.Heard.{heard_takes}
use Rattle.calm_runs.specs.send_causes.specs.Below.call_stories.specs.LinkReadingLists.{gave_in, attempts_of_run}

-- the request of a call under a correlation id
abbrev pub request_with : Asked → ℕ → Frame
request_with asked id = record { meta = meta_with asked id; payload = asked.payload; attachment = asked.attachment }

module _ (script : List Item) (turns : List Turn) (core : Core) (is : IsRunWithCalls script turns core) where
  -- link k has the server, and became a socket's before the run was ending; no take of it failed, it gave no frame fault, and less than is read at most
  pub record IsServed (k : ℕ) (shape : Shape) : Type 0 where
    pub opened : slice_get (link_shapes script) k ≡ Some shape
    pub serves : IsTrue shape.serve
    pub name : ℕ
    pub slot : ℕ
    pub version : ℕ
    pub lived : Made (all_tasks script) core.outcomes name k slot version
    pub in_time : Contains (late_links_of_run script turns core is) k → ⊥
    pub whole : Contains (heard_takes is k) Broken → ⊥
    pub faultless : HasFault (gave_in core k) → ⊥
    pub few : length (gave_in core k) < LIMIT

  -- what link k took in the end
  abbrev pub took_in_all : ℕ → List ℕ
  took_in_all k = slice_index_or (took_at_home (plan_of script) core.homes) k []

  -- such a link gave the replies to what it took
  abbrev pub GivesReplies : Type 0
  GivesReplies = (k : ℕ) (shape : Shape) → IsServed k shape → gave_in core k ≡ given_for shape (took_in_all k)

  -- each link with the server gave the front of them, however its reading ended
  abbrev pub GivesFront : Type 0
  GivesFront = (k : ℕ) (shape : Shape) → slice_get (link_shapes script) k ≡ Some shape → IsTrue shape.serve → (more : List ℕ) × (gave_in core k ++ more ≡ given_for shape (took_in_all k))

  -- one that gave its end gave all that belongs to what it took, and to whatever it might take besides
  abbrev pub GivesLast : Type 0
  GivesLast = (k : ℕ) (shape : Shape) → slice_get (link_shapes script) k ≡ Some shape → IsTrue shape.serve → Contains (heard_takes is k) AtEnd → (more : List ℕ) → gave_in core k ≡ given_for shape (took_in_all k ++ more)

  -- ## Calls

  -- link k has the server, and no `send` is to a name of its socket
  pub record IsForCalls (k : ℕ) (shape : Shape) : Type 0 where
    pub opened : slice_get (link_shapes script) k ≡ Some shape
    pub serves : IsTrue shape.serve
    pub unsent : (client : ℕ) (t : Task) (name slot version : ℕ) (bytes : List ℕ) → IsTask (all_tasks script) core.outcomes client t → t.op ≡ ops.Send name bytes → Made (all_tasks script) core.outcomes name k slot version → ⊥

  -- the frame is the reply to the request of an attempt of a call
  pub record IsReplyToCall (frame : Frame) : Type 0 where
    pub client : ℕ
    pub task : Task
    pub asked : Asked
    pub outcome : Outcome
    pub id : ℕ
    pub attempt : ℕ
    pub is_task : IsTask (all_tasks script) core.outcomes client task
    pub op : task.op ≡ ops.Call asked
    pub became : Became (all_tasks script) core.outcomes task.number outcome
    pub shows : shown_id outcome ≡ Some id
    pub few : attempt + 2 ≤ asked.range
    -- that was made
    pub made : attempt ≤ attempts_of_run script turns core is task.number
    pub replies : reply (request_with asked (id + attempt + 1)) ≡ Some frame

  -- such a link gave no frame fault, and each frame that it gave is such a reply
  abbrev pub GivesNoFault : Type 0
  GivesNoFault = (k : ℕ) (shape : Shape) → IsForCalls k shape → HasFault (gave_in core k) → ⊥

  abbrev pub GivesCallReplies : Type 0
  GivesCallReplies = (k n : ℕ) (shape : Shape) (frame : Frame) → IsForCalls k shape → slice_get (stream (gave_in core k)).frames n ≡ Some frame → IsReplyToCall frame

  -- each response of a call's versions that such a link gave is the reply to the call's own request
  abbrev pub GivesOwnReplies : Type 0
  GivesOwnReplies = (k n id client : ℕ) (shape : Shape) (frame : Frame) (t : Task) (asked : Asked) (outcome : Outcome) → IsForCalls k shape → slice_get (stream (gave_in core k)).frames n ≡ Some frame → IsTask (all_tasks script) core.outcomes client t
      → t.op ≡ ops.Call asked → Became (all_tasks script) core.outcomes t.number outcome → shown_id outcome ≡ Some id → id < frame.meta.correlation_id → frame.meta.correlation_id < id + asked.range
      → reply (request_with asked frame.meta.correlation_id) ≡ Some frame
