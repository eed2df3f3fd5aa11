-- The tasks of the lines of a script.
use Rattle.std.specs.Prelude.{ℕ, ◌≡◌, ◌+◌, ◌≤◌, List, [], ◌∷◌, ◌++◌, All, length, slice_get, Option, Some, None}
use Rattle.exec_queue.specs.declared.task.Task as queue
use Rattle.exec_script.specs.declared.op.Op.{Op}
use Rattle.exec_script.specs.declared.op.Op.TheVariants.{Task, Stop}
use Rattle.exec_script.specs.declared.op.Change.{Change}
use Rattle.exec_script.specs.declared.op.Change.TheVariants.{Add, Sub, Move}
use Rattle.exec_script.specs.declared.told.Answer.{Answer}
use Rattle.exec_script.specs.declared.told.Answer.TheVariants.{Accepted, Refused, Stopped, Already}
use Rattle.exec_script.specs.Scripts.{IsOp, change_of}
use Rattle.exec_script.specs.Accounting.{Run}

-- as many lines as a script may have
abbrev pub most_lines : ℕ
most_lines = 4096

-- a script as it was read
pub record IsScript (script : List Op) : Type 0 where
  pub accounts : All IsOp script
  pub room : length script ≤ most_lines

-- the task that makes a change, for the line of this number
abbrev pub task_on : ℕ → Change → queue.Task
task_on line (Add a n) = record { kind = 1; a = a; b = 0; line = line; amount = n }
task_on line (Sub a n) = record { kind = 2; a = a; b = 0; line = line; amount = n }
task_on line (Move a b n) = record { kind = 3; a = a; b = b; line = line; amount = n }

-- what a task is for the accounts
abbrev pub run_of_task : queue.Task → Run
run_of_task t = record { line = t.line; change = change_of (record { kind = t.kind; a = t.a; b = t.b; amount = t.amount }) }

-- the task that was accepted of the line at a place of a script, which counts from 0, where it asks for this and was answered so
abbrev pub accepted_at : ℕ → Option Op → Answer → List queue.Task
accepted_at place (Some (Task change)) Accepted = task_on (place + 1) change ∷ []
accepted_at place (Some (Task change)) Refused = []
accepted_at place (Some (Task change)) Stopped = []
accepted_at place (Some (Task change)) Already = []
accepted_at place (Some Stop) answer = []
accepted_at place None answer = []

-- those of every so many lines from this place on, which were answered so
abbrev pub accepted_from : ℕ → List Op → ℕ → List Answer → List queue.Task
accepted_from step script place [] = []
accepted_from step script place (answer ∷ answers) = accepted_at place (slice_get script place) answer ++ accepted_from step script (place + step) answers

-- how many of these lines stopped the queue
abbrev pub stopped_in : List Answer → ℕ
stopped_in [] = 0
stopped_in (Stopped ∷ answers) = 1 + stopped_in answers
stopped_in (Accepted ∷ answers) = stopped_in answers
stopped_in (Refused ∷ answers) = stopped_in answers
stopped_in (Already ∷ answers) = stopped_in answers

-- the queue was found stopped
abbrev pub IsLate : Answer → Type 0
IsLate Refused = Unit {0}
IsLate Already = Unit {0}
IsLate Accepted = ⊥
IsLate Stopped = ⊥
