use Rattle.std.proofs.Common.{ap, ◌∙◌}
use Rattle.seat_programs.specs.Tasks.{calls}
use Rattle.script_lang.specs.OperationNumbers.{Numbers}
use Rattle.script_lang.proofs.script.Script.calls.Goals as goal

pub returns : goal.returns
returns c = c.calls.ensures ∙ ap (λ (n : Numbers). n.calls) c.self.invariant.2 ∙ ap calls c.self.view_is
