-- By which link's end or fault a call failed that whoever read the links ended.
use Rattle.std.specs.Prelude.{ℕ, ◌≡◌, ◌<◌, ◌≤◌, ◌⊎◌, true, List, length, slice_get, Option, Some, IfSome}
use Rattle.sock_words.specs.ErrorCodes.{EEOF, ERESPONSE}
use Rattle.sock_words.specs.declared.outcome.Outcome.{Outcome}
use Rattle.sock_words.specs.declared.plain.Plan.{Plan}
use Rattle.sock_message.specs.Asked.{Asked, name_of}
use Rattle.sock_message.specs.brpc_model.specs.ReturnedLink.{LinkEnd}
use Rattle.attempts_told.specs.call_whys.specs.call_places.specs.report_fits.specs.ScriptLinkEnds.{EndsEarly}
use Rattle.seat_programs.specs.declared.task.Task.{Task}
use Rattle.sock_message.specs.brpc_model.specs.Frame.{Frame}
use Rattle.seat_programs.specs.ExplainedCalls.{Fixed, Order, FoundNone, Gave, GaveFault, IsResponse, StandsOn, IsDropped, IsUnordered, IsFailing, WasFull, MayBeOn}

module _ (p : Plan) (clients : List (List Task)) (outcomes : List (Option Outcome)) (fixed : Fixed) (gave : ℕ → List ℕ) (orders : ℕ → Order) where
  -- link k was failing, or it accepted this attempt, or no link did, and each request may have been found taken
  abbrev pub LostOn : ℕ → ℕ → ℕ → Type 0
  LostOn o n k = IsFailing p clients outcomes fixed gave orders k ⊎ (StandsOn p clients outcomes fixed gave orders o n k ⊎ (IsUnordered p clients outcomes fixed gave orders o n × WasFull p clients outcomes fixed gave orders))

  -- where attempt n of the call that is operation o of this client went
  pub data LeftAt (client o : ℕ) (asked : Asked) (n : ℕ) : Type 0 where
    -- it may be on link k, which was failing, or accepted it; or no link did, and each request may have been found taken
    OnLink : (k : ℕ) → MayBeOn p clients outcomes fixed gave orders o n (name_of asked n) k → LostOn o n k → LeftAt client o asked n
    -- a retry that no link accepted, since its name had no socket: the setup opened none, nor had the client that made it opened or found one before its operation m, which is behind the call if that is its own
    NoneOpened : 0 < n → IsUnordered p clients outcomes fixed gave orders o n → (c m : ℕ) → 1 ≤ c → c < length clients → (c ≡ client → o < m) → FoundNone p clients outcomes fixed gave orders c m (name_of asked n) → LeftAt client o asked n

module _ (p : Plan) (clients : List (List Task)) (outcomes : List (Option Outcome)) (fixed : Fixed) (gave : ℕ → List ℕ) (orders : ℕ → Order) (ends : List LinkEnd) where
  -- the reading of link k ended, as the link shows that was given back: its other end had closed it, as far as it tells that; or its reading ended early
  abbrev pub ReadingEnded : ℕ → Type 0
  ReadingEnded k = (e : LinkEnd) × (slice_get ends k ≡ Some e) × (IfSome e.closed (λ closed. closed ≡ true) ⊎ EndsEarly (gave k) e)

  -- this attempt may be on k, whose reading ended, and was lost with it
  pub record LostWith (o n name k : ℕ) : Type 0 where
    pub on : MayBeOn p clients outcomes fixed gave orders o n name k
    pub ended : ReadingEnded k
    pub lost : LostOn p clients outcomes fixed gave orders o n k

  -- the message of this attempt, which may be on k alone, was dropped, since the reader of k, whose reading ended, had set its socket failed
  pub record DroppedWith (o n name k : ℕ) : Type 0 where
    pub on : MayBeOn p clients outcomes fixed gave orders o n name k
    pub dropped : IsDropped p clients outcomes fixed gave orders o n
    pub failing : IsFailing p clients outcomes fixed gave orders k
    pub ended : ReadingEnded k

  -- link k gave no response of the call with this id: no whole one before a frame fault
  abbrev pub GaveNoResponse : Asked → ℕ → ℕ → Type 0
  GaveNoResponse asked id k = (m : ℕ) (frame : Frame) → Gave p clients outcomes fixed gave orders k m frame → IsResponse p clients outcomes fixed gave orders asked id frame → ⊥

  -- How the call that is operation o of this client, with this id and this last attempt, was ended with the code by whoever read the links: the link of its last attempt gave a fault, or its reading ended and it
  -- gave no response of the call; or the attempt's message was dropped, since the reader of the link had set its socket failed, at a fault or at another end. Or the call was left when no link was read any more:
  -- then its last attempt went somewhere, and each link gave no response of it, or a fault
  pub data EndedByReading (client o : ℕ) (asked : Asked) (id code last : ℕ) : Type 0 where
    AtFault : code ≡ ERESPONSE → (k : ℕ) → MayBeOn p clients outcomes fixed gave orders o last (name_of asked last) k → GaveFault p clients outcomes fixed gave orders k → EndedByReading client o asked id code last
    AtEnd : code ≡ EEOF → (k : ℕ) → LostWith o last (name_of asked last) k → GaveNoResponse asked id k → EndedByReading client o asked id code last
    AtFaultDrop : code ≡ ERESPONSE → (k : ℕ) → DroppedWith o last (name_of asked last) k → GaveFault p clients outcomes fixed gave orders k → EndedByReading client o asked id code last
    AtEndDrop : code ≡ EEOF → (k : ℕ) → DroppedWith o last (name_of asked last) k → EndedByReading client o asked id code last
    LeftOver : code ≡ EEOF → LeftAt p clients outcomes fixed gave orders client o asked last → ((k : ℕ) → k < p.links → GaveFault p clients outcomes fixed gave orders k ⊎ GaveNoResponse asked id k) → EndedByReading client o asked id code last
