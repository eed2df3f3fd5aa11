-- What a report claims of a script and of the links given back.
use Rattle.std.specs.Prelude.{ℕ, ◌≡◌, ◌≢◌, ◌+◌, ◌<◌, ◌≤◌, ◌⊎◌, Bool, false, List, length, flat_map, count_by, zip, slice_get, bytes_eq, Some, IfSome, IsSome, Contains}
use Rattle.std.specs.List.{AllByRecursion}
use Rattle.sock_words.specs.declared.outcome.Outcome.{Outcome}
use Rattle.sock_words.specs.declared.outcome.Outcome.TheVariants.{Opened, Placed, Dropped, Failed, Expired}
use Rattle.brpc_model.specs.Items.{Item, Open, Send, Call, Expire, Fail, CallLine}
use Rattle.brpc_model.specs.Operations.{Operation, Label, operations, link_names, name_of}
use Rattle.brpc_model.specs.MessageOfLabel.{id_at}
use Rattle.brpc_model.specs.ReturnedLink.{LinkEnd}
use Rattle.brpc_model.specs.Report.{LinkLine, Report, report_text}
use Rattle.brpc_model.specs.Run.{Run, Lateness, Story, IsOperation, HasOutcome, BecameSocket, StandsIn, AreGiven}
use Rattle.brpc_model.specs.Order.{EachBefore, TookInOrder, InOwnOrder}
use Rattle.brpc_model.specs.LinkFailureCauses.{FailingBy, AreFails}
use Rattle.brpc_model.specs.Attempts.{attempt, IsTried}
use Rattle.brpc_model.specs.OutcomeCauses.{Cause}

-- ## One link

-- the label is one of a send, or an attempt that was made of a call with an id
abbrev pub IsMade : Run → Label → Type 0
IsMade run label = (op : Operation) (call : CallLine) → IsOperation run label.operation op → op.item ≡ Call call →
    IsSome (id_at run.report.outcomes label.operation) × (label.attempt ≤ run.story.last label.operation)

-- where a send stands in an order, its outcome says so
abbrev pub Shows : ℕ → ℕ → ℕ → Outcome → Type 0
Shows placed k p outcome = (p < placed → outcome ≡ Placed k p) × (placed ≤ p → outcome ≡ Dropped k p)

-- what holds of link k and of its two lines
pub record FitsLink (run : Run) (k : ℕ) (line : LinkLine) : Type 0 where
  -- the link was given back, and where it tells what it took, it took this, in order
  pub end : LinkEnd
  pub given : Contains run.ends end
  pub numbered : end.link ≡ k
  pub told : IfSome end.took (λ took. (line.took ≡ took) × TookInOrder run line)
  -- all are placed unless the link was failing
  pub within : line.placed ≤ length line.order
  pub fails : line.placed < length line.order → FailingBy run (λ i. Unit {0}) end
  -- each client's sends and first attempts stand in the order of its operations
  pub own_order : EachBefore (InOwnOrder run) line.order
  -- only a socket's link accepts, and only attempts that were made, under its own name
  pub lived : 0 < length line.order → BecameSocket run k
  pub named : AllByRecursion (λ label. (name_of run.script label ≡ slice_get (link_names run.script) k) × IsMade run label) line.order
  -- the outcome of a send shows its place
  pub shown : (p i : ℕ) (op : Operation) (name bytes : List ℕ) → StandsIn line (attempt i 0) p → IsOperation run i op → op.item ≡ Send name bytes →
      (outcome : Outcome) × HasOutcome run i outcome × Shows line.placed k p outcome

-- ## Once over the whole report

-- two calls with these ids have no version in common
abbrev pub AreApart : CallLine → ℕ → CallLine → ℕ → Type 0
AreApart a i b j = (i + a.retry + 1 < j) ⊎ (j + b.retry + 1 < i)

-- how many operations are of this sort and have this sort of outcome
abbrev pub count_outcomes : Run → (Item → Outcome → Bool) → ℕ
count_outcomes run test = count_by (λ (x : Operation × Outcome). test x.0.item x.1) (zip (operations run.script) run.report.outcomes)

-- an `open` of the name that made a socket
abbrev pub is_open_of : List ℕ → Item → Outcome → Bool
is_open_of name (Open n shape) (Opened slot version k) = bytes_eq n name
is_open_of name item other = false

-- a `fail` of the name that was answered `failed`
abbrev pub is_fail_of : List ℕ → Item → Outcome → Bool
is_fail_of name (Fail n code) Failed = bytes_eq n name
is_fail_of name item other = false

-- what holds of any two of the report
pub record FitsOnce (run : Run) : Type 0 where
  -- no label stands twice over all orders
  pub labels : EachBefore (λ (a b : Label). a ≢ b) (flat_map (λ (line : LinkLine). line.order) run.report.links)
  -- no two lives have the same id
  pub lives : (i j slot version k l : ℕ) → HasOutcome run i (Opened slot version k) → HasOutcome run j (Opened slot version l) → i ≡ j
  -- no two calls share a version
  pub versions : (i j id id' : ℕ) (p q : Operation) (a b : CallLine) → IsOperation run i p → IsOperation run j q → p.item ≡ Call a → q.item ≡ Call b →
      id_at run.report.outcomes i ≡ Some id → id_at run.report.outcomes j ≡ Some id' → i ≢ j → AreApart a id b id'
  -- a call is expired at most once
  pub expiries : (i j client number : ℕ) (p q : Operation) → IsOperation run i p → IsOperation run j q →
      p.item ≡ Expire client number → q.item ≡ Expire client number → HasOutcome run i Expired → HasOutcome run j Expired → i ≡ j
  -- a name has at most as many `fail` operations that failed a life as lives
  pub fails : (name : List ℕ) → count_outcomes run (is_fail_of name) ≤ count_outcomes run (is_open_of name)

-- ## The whole

-- what holds of a run and of its report
pub record FitsRun (run : Run) : Type 0 where
  -- one outcome for each operation, with its cause, and two lines for each link
  pub one_each : length run.report.outcomes ≡ length (operations run.script)
  pub causes : (i : ℕ) (op : Operation) (outcome : Outcome) → IsOperation run i op → HasOutcome run i outcome → Cause run i op op.item outcome
  pub line_each : length run.report.links ≡ length (link_names run.script)
  pub links : (k : ℕ) (line : LinkLine) → slice_get run.report.links k ≡ Some line → FitsLink run k line
  -- each attempt of a call but the last had to be followed
  pub tried : (i : ℕ) (op : Operation) (call : CallLine) → IsOperation run i op → op.item ≡ Call call → IsTried run i call
  pub once : FitsOnce run
  -- the story is that of these links and this report
  pub given : AreGiven run
  pub fails : AreFails run

-- the text is that of a report of which this holds, with some story; `late` is what the run fixes besides
abbrev pub Reports : (Run → Type 0) → List Item → List ℕ → List LinkEnd → Lateness → Type 0
Reports P script text ends late = (report : Report) × (story : Story) × (text ≡ report_text script report)
    × P (record { script = script; report = report; ends = ends; late = late; story = story })

-- the text is that of a report that fits the script and the links given back
abbrev pub Fits : List Item → List ℕ → List LinkEnd → Lateness → Type 0
Fits script text ends late = Reports FitsRun script text ends late
