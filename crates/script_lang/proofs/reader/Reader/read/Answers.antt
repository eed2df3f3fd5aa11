use Rattle.std.proofs.Common.{rules, [], ◌∷◌, ◌++◌, None, ap, sym}
use Rattle.brpc_model.specs.Script.{items}
use Rattle.script_lang.proofs.PlacedLineJudgement.{skipped, line_none}
use Rattle.script_lang.proofs.reader.Reader.read.Goals as goal

pub returns-in-Ok-None : goal.returns-in-Ok-None
returns-in-Ok-None c = λ said knows.
    let alone = c.read_line.ensures (items said) (ap (λ counts. counts.clients) (sym knows.counts)) (ap (λ counts. counts.links) (sym knows.counts)) in
    (said ++ None ∷ [], line_none said c.args.line.now (search rules), skipped c.args.self.now said knows)
