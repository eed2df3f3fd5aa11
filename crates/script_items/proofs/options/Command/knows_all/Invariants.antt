use Rattle.std.proofs.Common.{◌≡◌, length}
use Rattle.brpc_model.specs.Text.{words}
use Rattle.brpc_model.specs.LinePartReads.{are_known}
use Rattle.script_items.specs.Options.{keys_of, plain_of}
use Rattle.script_items.proofs.options.Command.knows_all.Given as goal

abbrev pub invariant-loop-option : goal.invariant-loop-option
invariant-loop-option l = are_known (keys_of l.self) (plain_of l.self) (words l.rest) ≡ are_known (keys_of l.self) (plain_of l.self) (words l.options)

abbrev pub decreases-loop-option : goal.decreases-loop-option
decreases-loop-option l = length l.rest
