use Rattle.std.proofs.Common.{◌≡◌, map, drop}
use Rattle.brpc_model.specs.Operations.{requests_in, size}
use Rattle.script_items.specs.LineMeaning.{item}
use Rattle.script_items.proofs.sizes.request_count.Given as goal

abbrev pub invariant-loop-line : goal.invariant-loop-line
invariant-loop-line l = size requests_in 4096 (map item (drop l.line-index l.lines)) ≡ size requests_in 4096 (map item l.lines)
