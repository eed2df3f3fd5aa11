-- What links with the server owe to the calls of a run.
use Rattle.std.specs.Prelude.{ℕ, ◌≡◌, ◌+◌, ◌<◌, ◌≤◌, true, List, slice_get, Some, None, IsTrue, Contains}
use Rattle.brpc_model.specs.Attempts.{IsResponse, attempt}
use Rattle.brpc_model.specs.LinkFailureCauses.{HasFault, reading_limit}
use Rattle.brpc_model.specs.Frame.{Frame}
use Rattle.brpc_model.specs.Items.{Item, Shape, CallLine, Send, Call}
use Rattle.brpc_model.specs.ReturnedLink.{LinkEnd}
use Rattle.brpc_model.specs.MessageOfLabel.{id_at, request_frame}
use Rattle.brpc_model.specs.Operations.{Operation, link_shapes}
use Rattle.brpc_model.specs.Reply.{reply}
use Rattle.brpc_model.specs.Report.{LinkLine}
use Rattle.brpc_model.specs.Run.{Run, IsOperation, IsLinkOf, GaveFrame, StandsIn}

-- operation i is this call, and has this id
pub record IsCall (run : Run) (i id : ℕ) (op : Operation) (call : CallLine) : Type 0 where
  pub there : IsOperation run i op
  pub item : op.item ≡ Call call
  pub shows : id_at run.report.outcomes i ≡ Some id

-- link k gave no frame fault; each response of a call that it gave is the reply to the call's own request, of an attempt that was made; and without `end` it gave the reply to each attempt that is placed there, and no end
pub record OwesReplies (run : Run) (k : ℕ) (shape : Shape) : Type 0 where
  pub faultless : HasFault (run.story.gave k) → ⊥
  pub own : (n i id : ℕ) (frame : Frame) (op : Operation) (call : CallLine) → IsCall run i id op call → GaveFrame run k n frame → IsResponse call id frame →
      (reply (request_frame call frame.meta.correlation_id) ≡ Some frame) × (m : ℕ) × (m ≤ run.story.last i) × (frame.meta.correlation_id ≡ id + m + 1)
  pub given : (p m i id : ℕ) (line : LinkLine) (op : Operation) (call : CallLine) → shape.end ≡ None → IsCall run i id op call → slice_get run.report.links k ≡ Some line → StandsIn line (attempt i m) p → p < line.placed →
      (n : ℕ) × (frame : Frame) × GaveFrame run k n frame × (reply (request_frame call (id + m + 1)) ≡ Some frame)
  pub goes_on : shape.end ≡ None → (e : LinkEnd) → slice_get run.ends k ≡ Some e → e.gave_end ≡ true → ⊥

-- no `send` names the link
abbrev pub IsUnsent : Run → ℕ → Type 0
IsUnsent run k = (name bytes : List ℕ) → Contains run.script (Send name bytes) → IsLinkOf run k name → ⊥

-- so does each link with the server that no `send` names
abbrev pub GivesWell : Run → Type 0
GivesWell run = (k : ℕ) (shape : Shape) → slice_get (link_shapes run.script) k ≡ Some shape → IsTrue shape.serve → IsUnsent run k → OwesReplies run k shape

-- each link with the server gave less than is read at most
abbrev pub GaveFew : List Item → List LinkEnd → Type 0
GaveFew script ends = (k : ℕ) (e : LinkEnd) (shape : Shape) → slice_get ends k ≡ Some e → slice_get (link_shapes script) k ≡ Some shape → IsTrue shape.serve → e.gave_count < reading_limit
