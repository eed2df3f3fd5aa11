-- The tasks that a run is told of: those of each client but the ones on calls, and none of the other seats.
use Rattle.std.specs.Prelude.{ℕ, ◌≡◌, ◌-◌, ◌++◌, List, [], map, length, replicate}
use Rattle.brpc_model.specs.Items.{Item}
use Rattle.seat_programs.specs.declared.task.Op.{Op}
use Rattle.seat_programs.specs.declared.task.Op.TheVariants as ops
use Rattle.seat_programs.specs.declared.task.Task.{Task}
use Rattle.seat_programs.specs.Tasks.{opens}
use Rattle.seat_programs.specs.ScriptSetupToEnding.{all_tasks}
use Rattle.outcome_stories.specs.Explains.{plain_tasks}

abbrev pub no_tasks : List Task
no_tasks = []

-- the seats of so many readers stand behind those of the clients, and begin at 32
abbrev pub seats_tasks : List (List Task) → ℕ → List (List Task)
seats_tasks clients readers = map plain_tasks clients ++ (replicate (32 - length clients) no_tasks ++ replicate readers no_tasks)

abbrev pub told_tasks_of : List Item → List (List Task)
told_tasks_of script = seats_tasks (all_tasks script) (length (opens script))

-- a call knows the number of its operation
abbrev pub OwnsCall : ℕ → Op → Type 0
OwnsCall o (ops.Call asked) = asked.operation ≡ o
OwnsCall o other = Unit {0}
