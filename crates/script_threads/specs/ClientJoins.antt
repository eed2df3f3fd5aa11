-- What is told of the joins of clients.
use Rattle.std.specs.Prelude.{ℕ, ◌≡◌, List, Option}
use Rattle.sock_words.specs.declared.outcome.Outcome.{Outcome}
use Rattle.sock_words.specs.declared.plain.Plan.{Plan}
use Rattle.seat_programs.specs.declared.task.Op.TheVariants as ops
use Rattle.seat_programs.specs.declared.task.Task.{Task}
use Rattle.seat_programs.specs.Explained.{IsTask, Became}
use Rattle.seat_programs.specs.ExplainedCalls.{Fixed, Order, WhyJoin}

-- why each `join` of these clients has its outcome, by what became of the calls: it waited only for one that had begun, and found none only where none of its client had begun before it. Nothing else is said of attempts
abbrev pub AreJoinsTold : Plan → List (List Task) → List (Option Outcome) → Fixed → (ℕ → List ℕ) → (ℕ → Order) → Type 0
AreJoinsTold p clients outcomes fixed gave orders = (last : ℕ → ℕ) (client of : ℕ) (t : Task) (by : Outcome) → IsTask clients outcomes client t → t.op ≡ ops.Join of → Became clients outcomes t.number by → WhyJoin p clients outcomes fixed gave orders last client t.number of by
