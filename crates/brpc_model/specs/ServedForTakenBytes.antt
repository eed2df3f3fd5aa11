-- What the built-in server gives for what a link took.
use Rattle.std.specs.Prelude.{ℕ, ◌≡◌, ◌<◌, List, take, flat_map, slice_get, Option, Some, None, IsTrue, Contains}
use Rattle.brpc_model.specs.Items.{Item, Shape, CallLine, Send, Call}
use Rattle.brpc_model.specs.Operations.{Operation, link_shapes}
use Rattle.brpc_model.specs.Frame.{Frame, frame_bytes}
use Rattle.brpc_model.specs.Reply.{reply, reply_frames}
use Rattle.brpc_model.specs.MessageOfLabel.{id_at, request_frame}
use Rattle.brpc_model.specs.ReturnedLink.{LinkEnd}
use Rattle.brpc_model.specs.Report.{LinkLine}
use Rattle.brpc_model.specs.Run.{Run, Lateness, IsOperation, IsLinkOf, BecameSocket, GaveFrame}
use Rattle.brpc_model.specs.LinkFailureCauses.{HasFault, OfLink, reading_limit}
use Rattle.brpc_model.specs.Attempts.{IsResponse}
use Rattle.brpc_model.specs.ReportFits.{FitsRun, Reports}
use Rattle.brpc_model.specs.Complete.{Completeness}

-- the first so many frames, where a number is given
abbrev pub first_of : Option ℕ → List Frame → List Frame
first_of None frames = frames
first_of (Some n) frames = take n frames

-- the replies to what was taken, cut to the first N with `end=N`
abbrev pub given_for : Shape → List ℕ → List ℕ
given_for shape took = flat_map frame_bytes (first_of shape.end (reply_frames took))

-- link k has the server, became a socket's before the run was ending, its reading met no fault, and it gave less than
-- the limit
pub record IsServedLink (run : Run) (k : ℕ) (shape : Shape) : Type 0 where
  pub opened : slice_get (link_shapes run.script) k ≡ Some shape
  pub serves : IsTrue shape.serve
  pub lived : BecameSocket run k
  pub in_time : Contains run.late.links k → ⊥
  pub read : OfLink run (λ (e : LinkEnd). (e.take_faults ≡ 0) × (HasFault (run.story.gave k) → ⊥) × (e.gave_count < reading_limit)) k

-- such a link gave the replies to what it took
abbrev pub GivesReplies : Run → Type 0
GivesReplies run = (k : ℕ) (shape : Shape) (line : LinkLine) → IsServedLink run k shape → slice_get run.report.links k ≡ Some line →
    run.story.gave k ≡ given_for shape line.took

-- where no `send` names it either, each response of a call's versions that it gave is the reply to the call's own request
abbrev pub GivesOwnReplies : Run → Type 0
GivesOwnReplies run = (k n i id : ℕ) (shape : Shape) (frame : Frame) (op : Operation) (call : CallLine) → IsServedLink run k shape →
    ((name bytes : List ℕ) → Contains run.script (Send name bytes) → IsLinkOf run k name → ⊥) →
    GaveFrame run k n frame → IsOperation run i op → op.item ≡ Call call → id_at run.report.outcomes i ≡ Some id → IsResponse call id frame →
    reply (request_frame call frame.meta.correlation_id) ≡ Some frame

-- what the built-in server owes to a run: the replies to what its links took, and to each call its own
abbrev pub ServesAll : Run → Type 0
ServesAll run = GivesReplies run × GivesOwnReplies run

-- the report fits, it is complete, and links with the server gave what it owes
abbrev pub FitsServed : List Item → List ℕ → List LinkEnd → Lateness → Type 0
FitsServed script text ends late = Reports (λ run. FitsRun run × Completeness run × ServesAll run) script text ends late
