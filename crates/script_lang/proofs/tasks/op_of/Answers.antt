use Rattle.std.proofs.Common.{ap, subst}
use Rattle.script_items.specs.LineMeaning.{item}
use Rattle.script_lang.specs.TasksByLine.{IsShort}
use Rattle.script_lang.proofs.tasks.op_of.Goals as goal

pub call_in-requires-clause-limits : goal.call_in-requires-clause-limits
call_in-requires-clause-limits c = subst IsShort (ap item c.in-Call.is) c.requires.short c.args.names.now c.args.number
