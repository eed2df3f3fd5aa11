use Rattle.std.proofs.Common.{◌≡◌, map, drop}
use Rattle.brpc_model.specs.Operations.{first_in, size}
use Rattle.script_items.specs.LineMeaning.{item}
use Rattle.script_items.proofs.sizes.first_version.Given as goal

abbrev pub invariant-loop-line : goal.invariant-loop-line
invariant-loop-line l = size first_in 0 (map item (drop l.line-index l.lines)) ≡ size first_in 0 (map item l.lines)
