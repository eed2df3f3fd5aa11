use Rattle.std.proofs.Common.{◌≡◌, append_assoc, string_bytes}
use Rattle.std.proofs.lemmas.Result.{IfOk-weaker}
use Rattle.script_report.specs.RunSummary.{load_line}
use Rattle.script_report.proofs.summary.load_line.Goals as goal

pub returns : goal.returns
returns c = IfOk-weaker c.format.result _ (λ t. string_bytes t ≡ load_line c.args.load.seed c.args.load.clients c.args.load.operations) (λ t e. simp append_assoc e) c.format.ensures.ok
