use Rattle.std.proofs.Common.{◌≡◌, map, drop}
use Rattle.brpc_model.specs.Operations.{slots_in, size}
use Rattle.script_items.specs.LineMeaning.{item}
use Rattle.script_items.proofs.sizes.slot_count.Given as goal

abbrev pub invariant-loop-line : goal.invariant-loop-line
invariant-loop-line l = size slots_in 31 (map item (drop l.line-index l.lines)) ≡ size slots_in 31 (map item l.lines)
