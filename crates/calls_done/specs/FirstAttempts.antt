-- What became of the first attempt of a call, by what became of sockets.
use Rattle.std.specs.Prelude.{ℕ, List, Option}
use Rattle.sock_words.specs.declared.outcome.Outcome.{Outcome}
use Rattle.sock_words.specs.declared.outcome.Outcome.TheVariants.{Unopened}
use Rattle.sock_words.specs.declared.plain.Plan.{Plan}
use Rattle.seat_programs.specs.declared.task.Task.{Task}
use Rattle.seat_programs.specs.Explained.{Became, Made}
use Rattle.seat_programs.specs.ExplainedCalls.{Fixed, Order, StandsOn, IsFailing, WasFull}

-- The first attempt of the call that is operation o, under its first name: a link accepted it; or the call became
-- unopened; or an `open` of the name made a life whose link was failing; or each request may have been found taken
pub data FirstAttempt (p : Plan) (clients : List (List Task)) (outcomes : List (Option Outcome)) (fixed : Fixed) (gave : ℕ → List ℕ) (orders : ℕ → Order) (o name : ℕ) : Type 0 where
  Stands : (k : ℕ) → StandsOn p clients outcomes fixed gave orders o 0 k → FirstAttempt p clients outcomes fixed gave orders o name
  BecameUnopened : Became clients outcomes o Unopened → FirstAttempt p clients outcomes fixed gave orders o name
  FoundFailing : (k slot version : ℕ) → Made clients outcomes name k slot version → IsFailing p clients outcomes fixed gave orders k → FirstAttempt p clients outcomes fixed gave orders o name
  FoundFull : WasFull p clients outcomes fixed gave orders → FirstAttempt p clients outcomes fixed gave orders o name
