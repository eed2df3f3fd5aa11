use Rattle.std.proofs.Common.{◌≡◌, ◌++◌, take, map}
use Rattle.script_items.specs.LineMeaning.{item}
use Rattle.script_print.specs.PrintedParts.{lines_text, body_items}
use Rattle.script_print.proofs.script_text.push_body.Given as goal

abbrev pub invariant-loop-line : goal.invariant-loop-line
invariant-loop-line l = l.text.items ≡ l.initial.text.items ++ lines_text (body_items (map item (take l.line-index l.lines)))
