-- What a submitter did of its lines.
use Rattle.std.specs.Prelude.{ℕ, ◌≡◌, ◌+◌, ◌-◌, ◌*◌, ◌<◌, ◌≤◌, true, false, List, [], ◌∷◌, ◌++◌, length, filter_map, slice_get, Option, Some, None}
use Rattle.std.specs.Vec.{vec_capacity}
use Rattle.sock_io.specs.declared.link.Out.{Ghosts}
use Rattle.sock_model.specs.declared.chain.Entry.{Entry}
use Rattle.exec_queue.specs.declared.task.Task as queue
use Rattle.exec_queue.specs.declared.queue.TaskQueue.{TaskQueue}
use Rattle.exec_queue.specs.declared.queue.TaskSubmitter.{TaskSubmitter}
use Rattle.exec_queue.specs.Submitters.{IsSubmitter}
use Rattle.exec_queue.specs.Tasks.{task_of}
use Rattle.exec_script.specs.declared.op.Op.{Op}
use Rattle.exec_script.specs.declared.told.Answer.{Answer}
use Rattle.exec_script.specs.declared.told.Answer.TheVariants.{Accepted, Refused, Stopped, Already}
use Rattle.exec_script.specs.QueueEnds.{Answers}
use Rattle.exec_threads.specs.declared.worker.Worker.{Worker}
use Rattle.exec_threads.specs.TasksOfLines.{accepted_at, accepted_from, stopped_in, IsLate}

-- the tasks of a seat that has one list
abbrev pub tasks_in : List (List Entry) → List queue.Task
tasks_in [] = []
tasks_in (own ∷ []) = filter_map (λ (e : Entry). task_of e.bytes) own
tasks_in (own ∷ other ∷ more) = []

-- the tasks that were accepted of a submitter, as its seat has them
abbrev pub tasks_by : {O : Type 0} {g : Ghosts O} → TaskSubmitter O g → List queue.Task
tasks_by s = tasks_in s.seat.me.0.lists

-- how the submitter stands behind the answer to a task: what was accepted of it, and whether it was told that the queue is stopped
abbrev pub HandedIn : {O : Type 0} {g : Ghosts O} → TaskQueue O g → queue.Task → Option Answer → TaskSubmitter O g → TaskSubmitter O g → Type 0
HandedIn q t (Some Accepted) s s' = IsSubmitter q (tasks_by s ++ t ∷ []) s' × (s'.number ≡ s.number) × (s'.stops ≡ s.stops) × (s'.told ≡ s.told)
HandedIn q t (Some Refused) s s' = IsSubmitter q (tasks_by s) s' × (s'.number ≡ s.number) × (s'.stops ≡ s.stops) × (s'.told ≡ true)
HandedIn q t None s s' = IsSubmitter q (tasks_by s) s' × (s'.number ≡ s.number) × (s'.stops ≡ s.stops) × (s'.told ≡ s.told)
HandedIn q t (Some Stopped) s s' = ⊥
HandedIn q t (Some Already) s s' = ⊥

-- and behind the answer to its stop
abbrev pub Halted : {O : Type 0} {g : Ghosts O} → TaskQueue O g → Answer → TaskSubmitter O g → TaskSubmitter O g → Type 0
Halted q Stopped s s' = IsSubmitter q (tasks_by s) s' × (s'.number ≡ s.number) × (s.stops ≡ 0) × (s'.stops ≡ 1) × (s.told ≡ false) × (s'.told ≡ s.told)
Halted q Already s s' = IsSubmitter q (tasks_by s) s' × (s'.number ≡ s.number) × (s'.stops ≡ s.stops) × (s'.told ≡ true)
Halted q Accepted s s' = ⊥
Halted q Refused s s' = ⊥

-- how the submitter stands behind the answer to the line at this place, which asks for this
pub record IsAnsweredBy {O : Type 0} {g : Ghosts O} (q : TaskQueue O g) (place : ℕ) (op : Op) (answer : Answer) (s s' : TaskSubmitter O g) : Type 0 where
  pub is : IsSubmitter q (tasks_by s ++ accepted_at place (Some op) answer) s'
  pub number : s'.number ≡ s.number
  pub fit : Answers op answer
  pub stops : s'.stops ≡ s.stops + stopped_in (answer ∷ [])
  pub stays : s.told ≡ true → s'.told ≡ true
  pub told : IsLate answer → s'.told ≡ true
  pub first : answer ≡ Stopped → s.told ≡ false

-- and where memory ran out
pub record IsUnanswered {O : Type 0} {g : Ghosts O} (q : TaskQueue O g) (s s' : TaskSubmitter O g) : Type 0 where
  pub is : IsSubmitter q (tasks_by s) s'
  pub number : s'.number ≡ s.number
  pub stops : s'.stops ≡ s.stops
  pub told : s'.told ≡ s.told

abbrev pub LineDone : {O : Type 0} {g : Ghosts O} → TaskQueue O g → ℕ → Op → Option Answer → TaskSubmitter O g → TaskSubmitter O g → Type 0
LineDone q place op (Some answer) s s' = IsAnsweredBy q place op answer s s'
LineDone q place op None s s' = IsUnanswered q s s'

-- the place of a submitter's own line, of which every so many lines is one; both count from 0
abbrev pub own_place : ℕ → ℕ → ℕ → ℕ
own_place step number n = (number - 1) + step * n

-- a submitter that did its lines up to here
pub record IsAtWork {O : Type 0} {g : Ghosts O} (q : TaskQueue O g) (script : List Op) (step : ℕ) (w : Worker O g) : Type 0 where
  pub some : 1 ≤ w.by.number
  pub low : w.by.number ≤ step
  -- room for what each line is answered
  pub room : length script ≤ vec_capacity w.answers
  -- of its tasks those were accepted that were answered so
  pub is : IsSubmitter q (accepted_from step script (w.by.number - 1) w.answers.items) w.by
  pub inside : (n : ℕ) → n < length w.answers.items → own_place step w.by.number n < length script
  pub fit : (n : ℕ) (op : Op) (answer : Answer) → slice_get script (own_place step w.by.number n) ≡ Some op → slice_get w.answers.items n ≡ Some answer → Answers op answer
  pub stops : w.by.stops ≡ stopped_in w.answers.items
  pub told : (n : ℕ) (late : Answer) → slice_get w.answers.items n ≡ Some late → IsLate late → w.by.told ≡ true
  -- the queue is found stopped only behind its own stop
  pub behind : (n stop : ℕ) (late : Answer) → slice_get w.answers.items n ≡ Some late → IsLate late → slice_get w.answers.items stop ≡ Some Stopped → stop < n

-- before its first line
pub record IsWaiting {O : Type 0} {g : Ghosts O} (q : TaskQueue O g) (script : List Op) (step number : ℕ) (w : Worker O g) : Type 0 where
  pub at : IsAtWork q script step w
  pub number_is : w.by.number ≡ number
  pub empty : w.answers.items ≡ []
  pub enough : w.short ≡ false

-- and behind its last, unless memory ran out
pub record HasWorked {O : Type 0} {g : Ghosts O} (q : TaskQueue O g) (script : List Op) (step number : ℕ) (w : Worker O g) : Type 0 where
  pub at : IsAtWork q script step w
  pub number_is : w.by.number ≡ number
  pub all : w.short ≡ false → length script ≤ own_place step number (length w.answers.items)
