use Rattle.std.proofs.Common.{◌≡◌, drop, map}
use Rattle.std.specs.List.{list_any}
use Rattle.brpc_model.specs.Items.{is_turn}
use Rattle.script_items.specs.LineMeaning.{item}
use Rattle.script_print.proofs.script_text.has_turns.Given as goal

abbrev pub invariant-loop-line : goal.invariant-loop-line
invariant-loop-line l = list_any is_turn (map item (drop l.line-index l.lines)) ≡ list_any is_turn (map item l.lines)
