use Rattle.std.proofs.Common.{◌≡◌, length}
use Rattle.std.specs.Str.Lines.{lines}
use Rattle.script_reasons.specs.ScriptFaultWords.{opened_name}
use Rattle.script_reasons.proofs.places.opened_name.Given as goal

-- the link that is looked for is the one at what is left of the number, in what is left of the text
abbrev pub invariant-loop-rest : goal.invariant-loop-rest
invariant-loop-rest l = opened_name l.left (lines l.rest) ≡ opened_name l.number (lines l.text)

abbrev pub decreases-loop-rest : goal.decreases-loop-rest
decreases-loop-rest l = length l.rest
