use Rattle.std.proofs.Common.{true, false, refl, sym, ◌∙◌}
use Rattle.script_items.specs.LineMeaning.{item}
use Rattle.script_lang.proofs.PlacedLineJudgement.{judged}
use Rattle.script_lang.proofs.reader.Reader.fault_of.Goals as goal

pub returns-then-is_misplaced-clause-kind : goal.returns-then-is_misplaced-clause-kind
returns-then-is_misplaced-clause-kind c = λ before has. judged c.args.self.now before (item c.args.line.now) has true _ _ (sym c.is_misplaced.ensures ∙ c.if-is_misplaced.true) refl refl

pub returns-then-is_full-clause-kind : goal.returns-then-is_full-clause-kind
returns-then-is_full-clause-kind c = λ before has. judged c.args.self.now before (item c.args.line.now) has false true _ (sym c.is_misplaced.ensures ∙ c.if-is_misplaced.false) (sym c.is_full.ensures ∙ c.if-is_full.true) refl

pub returns-then-is_unpaired-clause-kind : goal.returns-then-is_unpaired-clause-kind
returns-then-is_unpaired-clause-kind c = λ before has.
    judged c.args.self.now before (item c.args.line.now) has false false true (sym c.is_misplaced.ensures ∙ c.if-is_misplaced.false) (sym c.is_full.ensures ∙ c.if-is_full.false) (sym (c.is_unpaired.ensures before has.held) ∙ c.if-is_unpaired.true)

pub returns-else-is_unpaired-clause-kind : goal.returns-else-is_unpaired-clause-kind
returns-else-is_unpaired-clause-kind c = λ before has.
    judged c.args.self.now before (item c.args.line.now) has false false false (sym c.is_misplaced.ensures ∙ c.if-is_misplaced.false) (sym c.is_full.ensures ∙ c.if-is_full.false) (sym (c.is_unpaired.ensures before has.held) ∙ c.if-is_unpaired.false)
