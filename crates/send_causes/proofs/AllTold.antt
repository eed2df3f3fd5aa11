-- All that is told of a whole run with calls, of any script that is made and read.
use Rattle.std.proofs.Common.{◌≡◌, ℕ, List, Ok}
use Rattle.std.specs.List.{AllByRecursion}
use Rattle.seat_programs.specs.brpc_model.specs.Items.{Item}
use Rattle.seat_programs.specs.brpc_model.specs.Operations.{Turn}
use Rattle.seat_programs.specs.brpc_model.specs.Script.{script_of}
use Rattle.seat_programs.specs.Cores.{Core}
use Rattle.seat_programs.specs.Tasks.{plan_of}
use Rattle.seat_programs.specs.ScriptSetupToEnding.{all_tasks, IsRunWithCalls}
use Rattle.seat_programs.specs.ExplainedCalls.{ExplainedCalls}
use Rattle.dropped_calls.specs.Below.joint_runs.proofs.RunsOfBothTables.{AreMade}
use Rattle.dropped_calls.specs.Below.script_facts.proofs.ReadScriptFacts.{InRange}
use Rattle.dropped_calls.specs.Below.script_facts.proofs.Targets.{AreThere}
use Rattle.dropped_calls.specs.Below.call_owing.specs.LivesOfLinks.{ClosesInRun}
use Rattle.dropped_calls.specs.Below.call_stories.specs.LinkReadingLists.{gave_in}
use Rattle.send_causes.proofs.Assembled.{last_in_run, fixed_in_run, orders_in_run, told_calls}
use Rattle.send_causes.proofs.Assembled as assembled
use Rattle.send_causes.proofs.CausedEnds.{ended_of_run}
use Rattle.send_causes.proofs.CausedPosts.{caused_of_run}

module _ (script : List Item) (made : AreMade script) (there : AreThere script) (range : AllByRecursion InRange script) (turns : List Turn) (core : Core) (is : IsRunWithCalls script turns core) (closes : ClosesInRun script turns core is) (bytes : List ℕ) (reads : script_of bytes ≡ Ok script) where
  -- why each task has its outcome, and each link took what it took
  pub told_of_run : ExplainedCalls (plan_of script) (all_tasks script) core.outcomes (fixed_in_run script made there range bytes reads turns core is closes) (gave_in core) (orders_in_run script made there range bytes reads turns core is closes) core
  told_of_run = told_calls script made there range bytes reads turns core is closes (caused_of_run script made there range turns core is closes bytes reads) (ended_of_run script made there range turns core is closes bytes reads)

  -- its last attempts are those to which the run came
  pub told_last : (o : ℕ) → told_of_run.last o ≡ last_in_run script made there range bytes reads turns core is closes o
  unfolding told_of_run
  told_last o = assembled.told_last script made there range bytes reads turns core is closes (caused_of_run script made there range turns core is closes bytes reads) (ended_of_run script made there range turns core is closes bytes reads) o
