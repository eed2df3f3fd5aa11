-- Each script that is read begins soundly, over tables that are made for it.
use Rattle.std.proofs.Common.{◌≡◌, ℕ, List, arith}
use Rattle.std.specs.Prelude.{Ok}
use Rattle.brpc_model.specs.Items.{Item}
use Rattle.brpc_model.specs.Operations.{Turn}
use Rattle.brpc_model.specs.Script.{script_of}
use Rattle.seat_programs.specs.Tasks.{plan_of}
use Rattle.seat_programs.specs.Cores.{Core}
use Rattle.seat_programs.specs.ScriptSetupToEnding.{IsRunWithCalls}
use Rattle.outcome_causes.specs.program_steps.specs.SoundSeats.{IsWithinLimits}
use Rattle.outcome_causes.specs.program_walks.proofs.WholeScriptSound.{AreFittingIn, Begins}
use Rattle.owed_calls.specs.Below.joint_runs.proofs.RunsOfBothTables.{AreMade, first_views, begins, are_fitting_in, joint_runs}
use Rattle.owed_calls.specs.Below.joint_runs.proofs.ScriptTablesMade.{are_made}
use Rattle.brpc_model.specs.Limits.{KeepsLimits}
use Rattle.owed_calls.specs.Below.script_facts.proofs.ScriptSizes.{keeps_limits, plan_fits, few_seats}
use Rattle.owed_calls.specs.Below.script_facts.proofs.ReadScriptTasks.{tasks_of_script}

-- the sizes of a script's table
pub within_limits : (script : List Item) → KeepsLimits script → IsWithinLimits (plan_of script)
within_limits script limits = record {
  slots = omega (arith, limits.slots);
  links = omega (arith, limits.links);
  requests = omega (arith, limits.requests);
  names = omega (arith, limits.names);
  operations = omega (arith, limits.operations);
  first = limits.first;
}

module _ (bytes : List ℕ) (script : List Item) (reads : script_of bytes ≡ Ok script) where
  pub made : AreMade script
  made = let limits = keeps_limits bytes script reads in
      are_made script (tasks_of_script bytes script reads) (within_limits script limits) (plan_fits script limits) (few_seats script limits) (omega (arith, limits.links))

  pub starts : Begins script (first_views script)
  starts = begins script made

  -- what steps on ids find in a run is as their rule says
  pub fitting : (turns : List Turn) (core : Core) (run : IsRunWithCalls script turns core) → AreFittingIn script turns core run
  fitting turns core run = are_fitting_in script turns core run (joint_runs script turns core run made)
