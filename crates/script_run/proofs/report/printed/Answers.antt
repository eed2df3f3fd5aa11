use Rattle.std.proofs.Common.{map}
use Rattle.script_items.specs.LineMeaning.{item}
use Rattle.script_run.proofs.LinksTellingTaken.{summed}
use Rattle.script_run.proofs.report.printed.Goals as goal

pub returns-in-Summary : goal.returns-in-Summary
returns-in-Summary c = summed (λ text. text.items) c.args.print c.in-Summary.load (map item c.args.lines.now) c.args.said.now c.args.places.now (map (λ bytes. bytes.now) c.args.took.now) c.print_summary.result c.in-Summary.is c.print_summary.ensures
