use Rattle.std.proofs.Common.{map}
use Rattle.script_items.specs.LineMeaning.{item}
use Rattle.script_print.proofs.PrintedScriptReadAgain.{read_back}
use Rattle.script_print.proofs.print.print_script.Goals as goal

pub returns-in_default-clause-again : goal.returns-in_default-clause-again
returns-in_default-clause-again g c = read_back (map item c.args.lines.now)

pub returns-in-Ok-write_all-clause-again : goal.returns-in-Ok-write_all-clause-again
returns-in-Ok-write_all-clause-again g c = read_back (map item c.args.lines.now)

pub returns-clause-again : goal.returns-clause-again
returns-clause-again g c = read_back (map item c.args.lines.now)
