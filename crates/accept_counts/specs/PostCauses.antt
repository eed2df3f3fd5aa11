-- Why an error was posted to the id of a call for one of its attempts.
use Rattle.std.specs.Prelude.{ℕ, ◌≡◌, ◌≤◌, List, Option}
use Rattle.sock_words.specs.ErrorCodes.{EEOF, EFAILEDSOCKET, EREQUESTS, ERESPONSE}
use Rattle.sock_words.specs.declared.plain.Plan.{Plan}
use Rattle.sock_words.specs.declared.outcome.Outcome.{Outcome}
use Rattle.sock_message.specs.Asked.{Asked, name_of}
use Rattle.seat_programs.specs.declared.task.Task.{Task}
use Rattle.seat_programs.specs.ExplainedCalls.{Fixed, Order, IsUnordered, IsDropped, WhyLost, WasFull, IsFailedWith, MayBeOn, GaveFault, EndedWith}

module _ (p : Plan) (clients : List (List Task)) (outcomes : List (Option Outcome)) (fixed : Fixed) (gave : ℕ → List ℕ) (orders : ℕ → Order) where
  -- why this code was posted for attempt n of the call with this id, which is operation o of client c
  pub data PostCause (c o : ℕ) (asked : Asked) (id code n : ℕ) : Type 0 where
    -- the attempt found no live socket, or no free request
    OfLoss : code ≡ EFAILEDSOCKET → IsUnordered p clients outcomes fixed gave orders o n → WhyLost p clients outcomes fixed gave orders c o n (name_of asked n) → PostCause c o asked id code n
    OfWant : code ≡ EREQUESTS → IsUnordered p clients outcomes fixed gave orders o n → WasFull p clients outcomes fixed gave orders → PostCause c o asked id code n
    -- its message was dropped: from a link that failed, or a socket that a `fail` failed
    OfDrop : code ≡ EFAILEDSOCKET → IsDropped p clients outcomes fixed gave orders o n → PostCause c o asked id code n
    OfFail : 1500 ≤ code → code ≤ 1999 → IsDropped p clients outcomes fixed gave orders o n → IsFailedWith p clients outcomes fixed gave orders (name_of asked n) code → PostCause c o asked id code n
    -- the reading of its link met a frame fault, or ended
    OfFault : code ≡ ERESPONSE → (k : ℕ) → MayBeOn p clients outcomes fixed gave orders o n (name_of asked n) k → GaveFault p clients outcomes fixed gave orders k → PostCause c o asked id code n
    OfEnd : code ≡ EEOF → (k : ℕ) → EndedWith p clients outcomes fixed gave orders asked o n (name_of asked n) id k → PostCause c o asked id code n
