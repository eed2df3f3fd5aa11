use Rattle.std.proofs.Common.{◌≡◌, append_assoc, string_bytes}
use Rattle.std.proofs.lemmas.Result.{IfOk-weaker}
use Rattle.script_report.specs.RunSummary.{sends_line}
use Rattle.script_report.proofs.summary.sends_line.Goals as goal

pub returns : goal.returns
returns c = IfOk-weaker c.format.result _ (λ t. string_bytes t ≡ sends_line c.args.sums.now) (λ t e. simp append_assoc e) c.format.ensures.ok
