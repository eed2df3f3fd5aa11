-- What is told of sockets in a run, whatever else it does: why each operation on sockets has its outcome, and each link took what it took.
use Rattle.std.specs.Prelude.{ℕ, ◌≡◌, ◌<◌, ◌≤◌, ◌⊎◌, List, [], length, Option}
use Rattle.std.specs.List.{AllByRecursion}
use Rattle.sock_words.specs.declared.outcome.Outcome.{Outcome}
use Rattle.sock_words.specs.declared.outcome.Outcome.TheVariants as outcome
use Rattle.sock_words.specs.declared.plain.Plan.{Plan}
use Rattle.sock_message.specs.Asked.{Asked, name_of, frame_of}
use Rattle.brpc_model.specs.Order.{EachBefore}
use Rattle.seat_programs.specs.declared.task.Op.{Op}
use Rattle.seat_programs.specs.declared.task.Op.TheVariants as ops
use Rattle.seat_programs.specs.declared.task.Task.{Task}
use Rattle.seat_programs.specs.Cores.{Core}
use Rattle.seat_programs.specs.Explained.{IsTask, Became, Made, IsFail}
use Rattle.seat_programs.specs.ExplainedCalls.{Accepted, Order, Fixed, AreOrders, StandsOn, InOwnOrder, FoundNone, IsFailing, IsSent, OutcomeCause}

-- what the table of sockets fixes besides: the links that failed, those whose reading beside the clients ended early, and the lives that were failed
abbrev pub fixed_by : List ℕ → List ℕ → List (ℕ × ℕ) → Fixed
fixed_by broken early fails = record { broken = broken; early = early; closed = []; silent = []; late = []; late_links = []; soon = []; fails = fails }

-- the operation is on sockets alone
abbrev pub IsOfSockets : Op → Type 0
IsOfSockets (ops.Call asked) = ⊥
IsOfSockets (ops.Expire o) = ⊥
IsOfSockets (ops.Join o) = ⊥
IsOfSockets op = Unit {0}

-- message a, which link k accepted, is an attempt of a call, with the frame that has its id, to a name of the link's socket
pub record IsAttempt (clients : List (List Task)) (outcomes : List (Option Outcome)) (k : ℕ) (a : Accepted) : Type 0 where
  pub client : ℕ
  pub asked : Asked
  pub is : IsTask clients outcomes client record { number = a.operation; op = ops.Call asked }
  pub low : a.attempt ≤ 6
  pub id : ℕ
  pub frame : a.bytes ≡ frame_of asked id a.attempt
  pub slot : ℕ
  pub version : ℕ
  pub made : Made clients outcomes (name_of asked a.attempt) k slot version

module _ (p : Plan) (clients : List (List Task)) (outcomes : List (Option Outcome)) (fixed : Fixed) (gave : ℕ → List ℕ) (orders : ℕ → Order) where
  pub record ToldSockets (c : Core) : Type 0 where
    pub are_orders : AreOrders p c orders
    -- each `send` has an outcome, or its message was accepted
    pub told : (client number name : ℕ) (bytes : List ℕ) → IsTask clients outcomes client record { number = number; op = ops.Send name bytes } → ((outcome : Outcome) × Became clients outcomes number outcome) ⊎ ((k : ℕ) × StandsOn p clients outcomes fixed gave orders number 0 k)
    -- the `fail`s that were answered `failed`, each of which failed another life
    pub are : AllByRecursion (IsFail clients outcomes) fixed.fails
    pub once : EachBefore (λ (f g : ℕ × ℕ). (f.0 ≡ g.0 → ⊥) × (f.1 ≡ g.1 → ⊥)) fixed.fails
    -- no two opens made the same life
    pub lives : (n k m l slot version : ℕ) (a : Made clients outcomes n k slot version) (b : Made clients outcomes m l slot version) → a.task.number ≡ b.task.number
    pub why : (last : ℕ → ℕ) (client : ℕ) (t : Task) (outcome : Outcome) → IsTask clients outcomes client t → Became clients outcomes t.number outcome → IsOfSockets t.op → OutcomeCause p clients outcomes fixed gave orders last client t.number t.op outcome
    -- a call that became unopened found no socket under the name of its first attempt
    pub unopened : (client number : ℕ) (asked : Asked) → IsTask clients outcomes client record { number = number; op = ops.Call asked } → Became clients outcomes number outcome.Unopened → FoundNone p clients outcomes fixed gave orders client number (name_of asked 0)
    -- each message that a link accepted is that of a `send` of which nothing is said, or an attempt of a call, to a name of the link's socket
    pub sent : (last : ℕ → ℕ) (k : ℕ) → k < p.links → AllByRecursion (λ (a : Accepted). IsSent p clients outcomes fixed gave orders last k a ⊎ IsAttempt clients outcomes k a) (orders k).accepted
    -- of each client sends and first attempts stand in the order of its operations
    pub own_order : (k : ℕ) → k < p.links → EachBefore (InOwnOrder p clients outcomes fixed gave orders) (orders k).accepted
    -- and messages are dropped only where the link's life was failed
    pub dropped : (k : ℕ) → k < p.links → (orders k).placed < length (orders k).accepted → IsFailing p clients outcomes fixed gave orders k
