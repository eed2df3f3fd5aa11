use Rattle.machine_model.specs.run_theorems.specs.Below.script_facts.proofs.ScriptSizes.{keeps_limits, is_counted}
use Rattle.script_lang.proofs.Shorts.{are_short}
use Rattle.sock_core.proofs.inputs.wanted_of.Goals as goal

pub plan-requires : goal.plan-requires
plan-requires c = keeps_limits c.requires.0 c.args.script.now c.requires.1

pub id_plan-requires : goal.id_plan-requires
id_plan-requires c = keeps_limits c.requires.0 c.args.script.now c.requires.1

pub tasks-requires-clause-limits : goal.tasks-requires-clause-limits
tasks-requires-clause-limits c = keeps_limits c.requires.0 c.args.script.now c.requires.1

pub tasks-requires-clause-calls : goal.tasks-requires-clause-calls
tasks-requires-clause-calls c = are_short c.args.script.now (is_counted c.requires.0 c.args.script.now c.requires.1).in_range
