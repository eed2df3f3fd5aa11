use Rattle.std.proofs.Common.{ap, ◌∙◌}
use Rattle.seat_programs.specs.Tasks.{opens}
use Rattle.script_lang.specs.OperationNumbers.{Numbers}
use Rattle.script_lang.proofs.script.Script.opens.Goals as goal

pub returns : goal.returns
returns c = c.opens.ensures ∙ ap (λ (n : Numbers). n.opens) c.self.invariant.2 ∙ ap opens c.self.view_is
