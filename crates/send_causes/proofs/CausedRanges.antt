-- An error of a call is for an attempt that its word can tell: none of them is past the sixth.
use Rattle.std.proofs.Common.{◌≡◌, ℕ, ◌≤◌, List, subst, arith}
use Rattle.std.specs.List.{AllByRecursion}
use Rattle.seat_programs.specs.brpc_model.specs.Items.{Item}
use Rattle.seat_programs.specs.brpc_model.specs.Operations.{Turn}
use Rattle.sock_message.specs.Asked.{Asked}
use Rattle.seat_programs.specs.Cores.{Core}
use Rattle.seat_programs.specs.declared.task.Op.TheVariants as ops
use Rattle.seat_programs.specs.declared.task.Task.{Task}
use Rattle.seat_programs.specs.Tasks.{plan_of}
use Rattle.seat_programs.specs.ScriptSetupToEnding.{all_tasks, IsRunWithCalls}
use Rattle.seat_programs.specs.Explained.{AskedFits, OpFits, TaskFits, IsTask}
use Rattle.dropped_calls.specs.Below.outcome_stories.proofs.Members.{all_in, contains_in, get_all}
use Rattle.dropped_calls.specs.Below.joint_runs.proofs.RunsOfBothTables.{AreMade}
use Rattle.dropped_calls.specs.Below.script_facts.proofs.ReadScriptFacts.{InRange}
use Rattle.dropped_calls.specs.Below.script_facts.proofs.Targets.{AreThere}
use Rattle.dropped_calls.specs.Below.call_stories.specs.LinkReadingLists.{attempts_of_run}
use Rattle.dropped_calls.specs.Below.call_causes.proofs.Posted.{run_few_attempts}

module _ (script : List Item) (made : AreMade script) (there : AreThere script) (range : AllByRecursion InRange script) (turns : List Turn) (core : Core) (is : IsRunWithCalls script turns core) where
  asked_fits : (client : ℕ) (t : Task) (asked : Asked) → IsTask (all_tasks script) core.outcomes client t → t.op ≡ ops.Call asked → AskedFits (plan_of script) asked
  asked_fits client t asked it op = let all = get_all (AllByRecursion (TaskFits (plan_of script))) (all_tasks script) client it.0 (let are = made.are in are.fit) it.1 in
      let fits : TaskFits (plan_of script) t = all_in (TaskFits (plan_of script)) it.0 t all (contains_in it.0 t it.2) in subst (OpFits (plan_of script)) op fits.1

  pub few_last : (client : ℕ) (t : Task) (asked : Asked) → IsTask (all_tasks script) core.outcomes client t → t.op ≡ ops.Call asked → attempts_of_run script turns core is t.number ≤ 6
  few_last client t asked it op = let few = run_few_attempts script made there range turns core is client t asked it op in let fits = asked_fits client t asked it op in let high = fits.range_high in omega (arith, few, high)
