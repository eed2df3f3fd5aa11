use Rattle.std.proofs.Common.{◌≡◌, length}
use Rattle.std.specs.Str.Lines.{lines}
use Rattle.script_reasons.specs.ScriptFaultWords.{numbered}
use Rattle.script_reasons.proofs.places.line_at.Given as goal

-- the line that is looked for stands at what is left of the number, in what is left of the text
abbrev pub invariant-loop-rest : goal.invariant-loop-rest
invariant-loop-rest l = numbered l.left (lines l.rest) ≡ numbered l.number (lines l.text)

abbrev pub decreases-loop-rest : goal.decreases-loop-rest
decreases-loop-rest l = length l.rest
