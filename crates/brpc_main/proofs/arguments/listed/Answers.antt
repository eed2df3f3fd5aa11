use Rattle.std.proofs.Common.{◌∙◌}
use Rattle.std.proofs.lemmas.Result.{IfOk-weaker}
use Rattle.brpc_main.proofs.VectorIteratorTaken.{all_taken}
use Rattle.brpc_main.proofs.arguments.listed.Goals as goal

pub returns : goal.returns
returns c = IfOk-weaker c.collect.result _ _ (λ all h. h.2.0 ∙ all_taken c.args.args h.0 h.1.0 h.1.1 (h.1.2 tt).1.0 c.args.args.rest.ok.0) c.collect.ensures.ran
