use Rattle.std.proofs.Common.{◌≡◌, length}
use Rattle.brpc_model.specs.Text.{words}
use Rattle.brpc_model.specs.LinePartReads.{values_of}
use Rattle.script_items.proofs.options.find_value.Given as goal

abbrev pub invariant-loop-option : goal.invariant-loop-option
invariant-loop-option l = values_of l.key (words l.rest) ≡ values_of l.key (words l.options)

abbrev pub decreases-loop-option : goal.decreases-loop-option
decreases-loop-option l = length l.rest
