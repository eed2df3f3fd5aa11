use Rattle.std.proofs.Common.{◌≡◌, map}
use Rattle.script_items.specs.LineMeaning.{item}
use Rattle.script_run.specs.Outlines.{outlined, meant}
use Rattle.script_run.proofs.marks.marks_of.Given as goal

-- the marks so far
abbrev pub invariant-loop-line : goal.invariant-loop-line
invariant-loop-line l = map meant l.marks.items ≡ map outlined (map item l.yielded)
