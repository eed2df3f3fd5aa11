use Rattle.std.proofs.Common.{◌≡◌, map}
use Rattle.script_items.specs.LineMeaning.{item}
use Rattle.script_run.specs.Outlines.{meant}
use Rattle.script_run.proofs.marks.lines_of.Given as goal

-- the lines so far
abbrev pub invariant-loop-mark : goal.invariant-loop-mark
invariant-loop-mark l = map item l.lines.items ≡ map meant l.yielded
