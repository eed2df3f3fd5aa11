-- What is known of a run beside what is told of it: what is said to come late did, nothing came late, and links tell what they took.
use Rattle.std.specs.Prelude.{ℕ, ◌≡◌, ◌<◌, ◌++◌, List, [], slice_get, Some, IsTrue, IsSome, Contains}
use Rattle.brpc_model.specs.Items.{Item, Shape}
use Rattle.brpc_model.specs.ReturnedLink.{LinkEnd}
use Rattle.brpc_model.specs.Operations.{Turn, link_shapes}
use Rattle.sock_message.specs.Asked.{Asked}
use Rattle.seat_programs.specs.declared.task.Op.TheVariants as ops
use Rattle.seat_programs.specs.declared.task.Task.{Task}
use Rattle.seat_programs.specs.Cores.{Core}
use Rattle.seat_programs.specs.Explained.{IsTask}
use Rattle.seat_programs.specs.ExplainedCalls.{Fixed}
use Rattle.seat_programs.specs.ScriptSetupToEnding.{all_tasks, played, IsRunWithCalls}
use Rattle.seat_programs.specs.Tasks.{id_plan_of}
use Rattle.offered_runs.specs.served_sizes.specs.served_calls.specs.Below.outcome_stories.specs.Facts.{late_of_run, late_links_of_run}
use Rattle.offered_runs.specs.served_sizes.specs.served_calls.specs.Below.call_owing.specs.SoundOwing.{id_word_of}
use Rattle.offered_runs.specs.served_sizes.specs.served_calls.specs.Below.call_stories.specs.LinkReadingLists.{attempts_of_run}

module _ (script : List Item) (turns : List Turn) (core : Core) (is : IsRunWithCalls script turns core) where
  -- what is fixed of the run is so: each call ended with the attempt to which the run advanced, and what is said to come late did
  pub record AreSo (fixed : Fixed) (tried : ℕ → ℕ) : Type 0 where
    pub last : (client : ℕ) (t : Task) (asked : Asked) → IsTask (all_tasks script) core.outcomes client t → t.op ≡ ops.Call asked → tried t.number ≡ attempts_of_run script turns core is t.number
    pub late : (o : ℕ) → Contains fixed.late o → Contains (late_of_run script turns core is) o
    pub late_links : (k : ℕ) → Contains fixed.late_links k → Contains (late_links_of_run script turns core is) k

  -- no id is open where the ending begins: each call that was begun has ended
  abbrev pub NoneOpen : Type 0
  NoneOpen = (i : ℕ) → i < (id_plan_of script).slots → (id_word_of (played script is.setup (is.scheduled ++ is.later)) i).state ≡ 0

  -- nothing came late
  abbrev pub IsInTime : Type 0
  IsInTime = (late_links_of_run script turns core is ≡ []) × (late_of_run script turns core is ≡ [])

-- each link with the server tells what it took
abbrev pub TellTook : List Item → List LinkEnd → Type 0
TellTook script ends = (k : ℕ) (e : LinkEnd) (shape : Shape) → slice_get ends k ≡ Some e → slice_get (link_shapes script) k ≡ Some shape → IsTrue shape.serve → IsSome e.took
