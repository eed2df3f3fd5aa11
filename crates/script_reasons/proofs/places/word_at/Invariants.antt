use Rattle.std.proofs.Common.{◌≡◌, length}
use Rattle.brpc_model.specs.Text.{words}
use Rattle.script_reasons.specs.ScriptFaultWords.{numbered}
use Rattle.script_reasons.proofs.places.word_at.Given as goal

-- the word that is looked for stands at what is left of the number, in what is left of the line
abbrev pub invariant-loop-word : goal.invariant-loop-word
invariant-loop-word l = numbered l.left (words l.rest) ≡ numbered l.number (words l.line)

abbrev pub decreases-loop-word : goal.decreases-loop-word
decreases-loop-word l = length l.rest
