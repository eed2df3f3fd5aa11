-- What a queue leaves.
use Rattle.std.specs.Prelude.{ℕ, ◌≡◌, ◌+◌, ◌^◌, ◌<◌, ◌≤◌, ◌⊎◌, true, List, [], ◌∷◌, ◌++◌, length, map, take, flat_map, Some}
use mathlib.Core.Option.{some}
use lib.ListN.{get_elem?}
use Rattle.sock_io.specs.declared.link.Out.{Ghosts}
use Rattle.chain_orders.specs.ListsInOneOrder.{AreMerged}
use Rattle.exec_queue.specs.declared.task.Task.{Task}
use Rattle.exec_queue.specs.declared.queue.TaskQueue.{TaskQueue}
use Rattle.exec_queue.specs.declared.queue.TaskSubmitter.{TaskSubmitter}
use Rattle.exec_queue.specs.declared.finishing.TaskEnd.{TaskEnd}
use Rattle.exec_queue.specs.Tasks.{IsTask, task_bytes}
use Rattle.exec_queue.specs.Submitters.{IsSubmitter, LinesDiffer}

-- of each submitter these tasks were accepted, in its own order
abbrev pub AreSubmitters : {O : Type 0} {g : Ghosts O} → TaskQueue O g → List (List Task) → List (TaskSubmitter O g) → Type 0
AreSubmitters q [] [] = Unit {0}
AreSubmitters q (ts ∷ tss) (s ∷ ss) = IsSubmitter q ts s × AreSubmitters q tss ss
AreSubmitters q [] (s ∷ ss) = ⊥
AreSubmitters q (ts ∷ tss) [] = ⊥

-- how many calls of `stop` answered Ok; whether `Stopped` or `Already` was answered to one, and `Full`
abbrev pub stops_of : {O : Type 0} {g : Ghosts O} → List (TaskSubmitter O g) → ℕ
stops_of [] = 0
stops_of (s ∷ ss) = s.stops + stops_of ss

-- no line was accepted of two submitters, nor twice of one
abbrev pub NoLineTwice : List (List Task) → Type 0
NoLineTwice tss = LinesDiffer (flat_map (λ ts. ts) tss)

-- The accepted tasks in the order of their exchanges, of which the first n were run, and all of them where the queue was never stopped. `ran` is what the half that ran them has of them.
pub record Ran (tss : List (List Task)) (stops : ℕ) (order : List ℕ) (n : ℕ) (ran : List Task) : Type 0 where
  pub tasks : List Task
  -- each submitter's in its own order
  pub ordered : AreMerged tss tasks
  pub lines : order ≡ map (λ (t : Task). t.line) tasks
  pub few : n ≤ length tasks
  pub ran_is : ran ≡ take n tasks
  pub whole : stops ≡ 0 → n ≡ length tasks

-- what the calls of all submitters answered, beside the tasks that were accepted
pub record AnswersFit {O : Type 0} {g : Ghosts O} (ss : List (TaskSubmitter O g)) (order : List ℕ) : Type 0 where
  pub one_stop : stops_of ss ≤ 1
  pub told : (k : ℕ) (s : TaskSubmitter O g) → get_elem? ss k ≡ some s → s.told ≡ true → stops_of ss ≡ 1
  pub full : (k : ℕ) (s : TaskSubmitter O g) → get_elem? ss k ≡ some s → s.full ≡ true → length order ≡ 4096

-- each can be read from its bytes
pub record IsWhole (t : Task) : Type 0 where
  pub task : IsTask t
  pub line : t.line < 2 ^ 32
  pub amount : t.amount < 2 ^ 64

abbrev pub AllWhole : List Task → Type 0
AllWhole ts = (n : ℕ) (t : Task) → get_elem? ts n ≡ some t → IsWhole t

-- over any half: the bytes that it took are those of the tasks that were run, and the beginning of one more at most. Where its count of faults stands at 0, or as many were run as a queue has lines, it ran all of them unless the queue was stopped; and at 0 the answers fit
pub record TasksEnded {O : Type 0} {g : Ghosts O} (tss : List (List Task)) (ss : List (TaskSubmitter O g)) (e : TaskEnd O) : Type 0 where
  pub took : List ℕ
  pub tells : (bytes : List ℕ) → (g.state e.out).took ≡ Some bytes → bytes ≡ took
  pub tasks : List Task
  pub part : List ℕ
  pub took_is : took ≡ flat_map task_bytes tasks ++ part
  pub few : length tasks ≤ 4096
  pub whole : AllWhole tasks
  pub part_few : length part < 16
  pub ran : ((g.state e.out).faults ≡ 0) ⊎ (length tasks ≡ 4096) → Ran tss (stops_of ss) e.order.items e.ran tasks
  pub answers : (g.state e.out).faults ≡ 0 → AnswersFit ss e.order.items
