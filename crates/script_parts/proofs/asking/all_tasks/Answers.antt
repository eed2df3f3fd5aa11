use Rattle.callless_fits.specs.sock_deeds.specs.script_facts.proofs.ScriptSizes.{is_counted, keeps_limits}
use Rattle.script_lang.proofs.Shorts.{are_short}
use Rattle.script_parts.proofs.asking.all_tasks.Goals as goal

pub tasks-requires-clause-limits : goal.tasks-requires-clause-limits
tasks-requires-clause-limits c = keeps_limits c.requires.0 c.args.script.now c.requires.1

pub tasks-requires-clause-calls : goal.tasks-requires-clause-calls
tasks-requires-clause-calls c = are_short c.args.script.now (is_counted c.requires.0 c.args.script.now c.requires.1).in_range
