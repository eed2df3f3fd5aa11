-- A script whose lines were done, and how its queue ended.
use Rattle.std.specs.Prelude.{ℕ, ◌≡◌, ◌+◌, ◌≤◌, ◌%◌, ◌/◌, false, List, length, map, filter_map, take, slice_get, Some}
use Rattle.sock_io.specs.declared.link.Out.{Ghosts}
use Rattle.exec_queue.specs.declared.queue.TaskQueue.{TaskQueue}
use Rattle.exec_queue.specs.declared.queue.TaskSubmitter.{TaskSubmitter}
use Rattle.exec_script.specs.declared.op.Op.{Op}
use Rattle.exec_script.specs.declared.told.Answer.{Answer}
use Rattle.exec_script.specs.Accounting.{book_after, run_at}
use Rattle.exec_script.specs.QueueEnds.{AreAnswered, IsOrder, IsStoppedOnce}
use Rattle.exec_threads.specs.TasksOfLines.{most_lines}
use Rattle.exec_threads.specs.declared.worker.Worker.{Worker}
use Rattle.exec_threads.specs.declared.run.Done.{Done}
use Rattle.exec_threads.specs.declared.run.Worked.{Worked}
use Rattle.exec_threads.specs.LinesDone.{IsWaiting, HasWorked}

-- the submitters in the order of their numbers, before their first lines
abbrev pub AreWaiting : {O : Type 0} {g : Ghosts O} → TaskQueue O g → List Op → ℕ → List (Worker O g) → Type 0
AreWaiting {O = O} {g = g} q script step ws = (k : ℕ) (w : Worker O g) → slice_get ws k ≡ Some w → IsWaiting q script step (k + 1) w

-- and behind their last
abbrev pub HaveWorked : {O : Type 0} {g : Ghosts O} → TaskQueue O g → List Op → ℕ → List (Worker O g) → Type 0
HaveWorked {O = O} {g = g} q script step ws = (k : ℕ) (w : Worker O g) → slice_get ws k ≡ Some w → HasWorked q script step (k + 1) w

-- none of them ran out of memory
abbrev pub AllEnough : {O : Type 0} {g : Ghosts O} → List (Worker O g) → Type 0
AllEnough {O = O} {g = g} ws = (k : ℕ) (w : Worker O g) → slice_get ws k ≡ Some w → w.short ≡ false

-- each line was answered as the submitter was whose line it is: they go round
pub record AreDealt {O : Type 0} {g : Ghosts O} (ws : List (Worker O g)) (lines : ℕ) (answers : List Answer) : Type 0 where
  pub long : length answers ≡ lines
  pub dealt : (place : ℕ) (answer : Answer) (w : Worker O g) → slice_get answers place ≡ Some answer → slice_get ws (place % length ws) ≡ Some w → slice_get w.answers.items (place / length ws) ≡ Some answer

-- all lines were done by submitters that have enough memory; those come back, in their order, with what each line was answered
pub record IsWorked {O : Type 0} {g : Ghosts O} (q : TaskQueue O g) (script : List Op) (step : ℕ) (d : Worked O g) : Type 0 where
  pub workers : List (Worker O g)
  pub count : length workers ≡ step
  pub have : HaveWorked q script step workers
  pub enough : AllEnough workers
  pub submitters : d.submitters.items ≡ map (λ (w : Worker O g). w.by) workers
  pub dealt : AreDealt workers (length script) d.answers.items

-- each line was answered, the order and the lines that ran are those of the accepted ones, one line at most stopped the queue, and the accounts, which have room for the longest script, are those behind what ran
pub record IsDone (submitters : ℕ) (script : List Op) (d : Done) : Type 0 where
  pub answered : AreAnswered script d.answers.items
  pub ordered : IsOrder submitters d.answers.items d.order.items
  pub few : d.ran ≤ length d.order.items
  pub stopped : IsStoppedOnce submitters d.answers.items d.order.items d.ran
  pub accounts : d.accounts ≡ book_after most_lines (filter_map (run_at script) (take d.ran d.order.items))
