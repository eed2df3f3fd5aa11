-- Why each `open`, `send`, `hold`, `drop` and `fail` has its outcome, in runs with calls too. Of the outcomes of `call`, `expire` and `join` nothing is said here.
use Rattle.std.specs.Prelude.{ℕ, ◌-◌, ◌%◌, ◌≡◌, ◌≢◌, ◌<◌, ◌≤◌, ◌⊎◌, List, length, slice_get, Option, Some, None, Contains}
use Rattle.std.specs.List.{AllByRecursion}
use Rattle.sock_words.specs.declared.plain.Plan.{Plan}
use Rattle.sock_words.specs.PackedWords.{vref_version, vref_nref}
use Rattle.sock_words.specs.declared.outcome.Outcome.{Outcome}
use Rattle.sock_words.specs.declared.outcome.Outcome.TheVariants.{Freed, Kept}
use Rattle.seat_programs.specs.declared.task.Op.{Op}
use Rattle.seat_programs.specs.declared.task.Op.TheVariants as ops
use Rattle.seat_programs.specs.TableSteps.{TableStep, OnSlot, SubRef, Recycle}
use Rattle.brpc_model.specs.Order.{EachBefore}
use Rattle.seat_programs.specs.declared.task.Task.{Task}
use Rattle.seat_programs.specs.Explained.{IsTask, Became, Made, IsFail, FoundNone, WasFailed, HasLife, OnSockets, WhyOnSockets}
use Rattle.seat_programs.specs.ExplainedCalls.{Accepted, Order, StandsAt, all_accepted}
use Rattle.outcome_stories.specs.KeptStory.{IsSpoken}

module _ (clients : List (List Task)) (outcomes : List (Option Outcome)) where
  -- a life of the name with a version of which this holds was failed by an operation that isn't a later one of client c, or its link was one of these; or the operation is a late one
  pub record FoundFailed (fails : List (ℕ × ℕ)) (broken : List ℕ) (late : ℕ → Type 0) (c o n : ℕ) (P : ℕ → Type 0) : Type 0 where
    pub link : ℕ
    pub slot : ℕ
    pub version : ℕ
    pub made : Made clients outcomes n link slot version
    pub holds : P version
    pub failed : WasFailed clients outcomes fails broken c o link ⊎ late o

  module _ (p : Plan) (fails : List (ℕ × ℕ)) (broken : List ℕ) (late : ℕ → Type 0) (orders : ℕ → Order) where
    -- what is told of operation o of client c
    abbrev pub on_sockets : ℕ → ℕ → OnSockets
    on_sockets c o = record {
      find = λ n. record { FoundNone = FoundNone clients outcomes c o n; FoundFailed = λ P. FoundFailed fails broken late c o n P; HasSocket = HasLife clients outcomes n };
      WasFull = p.requests ≤ all_accepted p.links orders;
      FailsLife = (k : ℕ) × Contains fails (o, k);
    }

    -- why it has its outcome
    abbrev pub OutcomeCause : ℕ → ℕ → Op → Outcome → Type 0
    OutcomeCause c o op outcome = WhyOnSockets clients outcomes p (on_sockets c o) c o op outcome

  -- message a, which link k accepted, is that of a `send` to a name of the link's socket, of which nothing is said
  pub record IsSent (k : ℕ) (a : Accepted) : Type 0 where
    pub client : ℕ
    pub task : Task
    pub is : IsTask clients outcomes client task
    pub numbered : task.number ≡ a.operation
    pub name : ℕ
    pub op : task.op ≡ ops.Send name a.bytes
    pub first : a.attempt ≡ 0
    pub slot : ℕ
    pub version : ℕ
    pub life : Made clients outcomes name k slot version
    pub untold : slice_get outcomes a.operation ≡ Some None

  -- of one client, the message of an earlier operation stands before that of a later one
  abbrev pub InOwnOrder : Accepted → Accepted → Type 0
  InOwnOrder a b = (c : ℕ) (t u : Task) → IsTask clients outcomes c t → IsTask clients outcomes c u → t.number ≡ a.operation → u.number ≡ b.operation → t.number < u.number

-- the tasks are those of all clients but the ones on calls. These are what each link accepted, messages of calls too, and how many of them it took whole. The first links answered that they failed, or readers or the ending closed their sockets; of these, the others
-- did so before the run was ending, and the late operations were told behind that
pub record ToldTasks (clients : List (List Task)) (outcomes : List (Option Outcome)) (p : Plan) (orders : ℕ → Order) (lost broken : List ℕ) (late : ℕ → Type 0) : Type 0 where
  pub within : (k : ℕ) → k < p.links → (orders k).placed ≤ length (orders k).accepted
  -- each task has an outcome, or is a `send` whose message was accepted
  pub told : (client : ℕ) (t : Task) → IsTask clients outcomes client t → ((outcome : Outcome) × Became clients outcomes t.number outcome)
      ⊎ ((k i : ℕ) × (a : Accepted) × (k < p.links) × StandsAt orders k i a × (a.operation ≡ t.number) × (a.attempt ≡ 0))
  -- the `fail` operations that were answered `failed`, each with the link of the life that it failed
  pub fails : List (ℕ × ℕ)
  pub are : AllByRecursion (IsFail clients outcomes) fails
  -- each failed another life
  pub once : EachBefore (λ (f g : ℕ × ℕ). (f.0 ≢ g.0) × (f.1 ≢ g.1)) fails
  -- no two opens made the same life
  pub lives : (n k m l slot version : ℕ) (a : Made clients outcomes n k slot version) (b : Made clients outcomes m l slot version) → a.task.number ≡ b.task.number
  -- each outcome has its cause
  pub why : (client : ℕ) (t : Task) (outcome : Outcome) → IsTask clients outcomes client t → Became clients outcomes t.number outcome → OutcomeCause clients outcomes p fails broken late orders client t.number t.op outcome
  -- what a link accepted was sent to its socket, by each client in the order of its operations, or is of a call
  pub sent : (k : ℕ) → k < p.links → AllByRecursion (λ (a : Accepted). IsSent clients outcomes k a ⊎ IsSpoken clients a.operation) (orders k).accepted
  pub own_order : (k : ℕ) → k < p.links → EachBefore (InOwnOrder clients outcomes) (orders k).accepted
  -- and messages are dropped only where the link's life was failed
  pub dropped : (k : ℕ) → k < p.links → (orders k).placed < length (orders k).accepted → Contains lost k ⊎ ((fail : ℕ) × Contains fails (fail, k))

-- each `drop` that was answered `freed` recycled its slot, and each that was answered `kept` gave its reference back and recycled none, in steps of which this holds
pub record DropsMade (clients : List (List Task)) (outcomes : List (Option Outcome)) (Made : ℕ → ℕ → TableStep → ℕ → Type 0) : Type 0 where
  pub freed : (i : ℕ) (t : Task) (n : ℕ) → IsTask clients outcomes i t → t.op ≡ ops.Drop n → Became clients outcomes t.number Freed → (slot from : ℕ) × Made i t.number (OnSlot (Recycle slot from)) from
  pub kept : (i : ℕ) (t : Task) (n : ℕ) → IsTask clients outcomes i t → t.op ≡ ops.Drop n → Became clients outcomes t.number Kept → (slot found : ℕ) × Made i t.number (OnSlot (SubRef slot)) found
      × ((((vref_version found % 2 ≡ 1) × (vref_nref found ≡ 1)) → ⊥) ⊎ ((other : ℕ) × Made i t.number (OnSlot (Recycle slot (found - 1))) other × (other ≢ found - 1)))
