use Rattle.std.proofs.Common.{◌≡◌, ◌++◌, filter, take, map}
use Rattle.brpc_model.specs.Items.{is_turn}
use Rattle.script_items.specs.LineMeaning.{item}
use Rattle.script_print.specs.PrintedParts.{lines_text}
use Rattle.script_print.proofs.script_text.push_turns.Given as goal

abbrev pub invariant-loop-line : goal.invariant-loop-line
invariant-loop-line l = l.text.items ≡ l.initial.text.items ++ lines_text (filter is_turn (map item (take l.line-index l.lines)))
