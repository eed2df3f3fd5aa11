use Rattle.std.proofs.Common.{◌≡◌, length, filter, bytes_eq}
use Rattle.brpc_model.specs.Text.{words}
use Rattle.script_items.proofs.options.find_word.Given as goal

abbrev pub invariant-loop-option : goal.invariant-loop-option
invariant-loop-option l = filter (bytes_eq l.word) (words l.rest) ≡ filter (bytes_eq l.word) (words l.options)

abbrev pub decreases-loop-option : goal.decreases-loop-option
decreases-loop-option l = length l.rest
