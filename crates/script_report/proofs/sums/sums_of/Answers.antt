use Rattle.std.proofs.Common.{ℕ, map, Some, unwrap_or, ap, sym, ◌∙◌, subst, arith}
use Rattle.sock_words.specs.PackedWords.{HasPosition}
use Rattle.brpc_model.specs.PlaceWords.{outcome_by_word, outcomes_from}
use Rattle.script_items.specs.LineMeaning.{item}
use Rattle.script_report.specs.RunSummary.{one_of}
use Rattle.script_report.proofs.ReportLinesByPlaces.{looked_up}
use Rattle.script_report.proofs.Summed.{sums_begun, none_there, told_more, told_spent, told_passed_on, told_out, few_more, few_still}
use Rattle.script_report.proofs.sums.sums_of.Goals.{then-is_operation, in-Some, in_default, else-is_operation}
use Rattle.script_report.proofs.sums.sums_of.Goals as goal

pub loop-line-init : goal.loop-line-init
loop-line-init c = record {
  operation = omega arith;
  few = record { sends = omega arith; placed = omega arith; placed_bytes = omega arith; calls = omega arith; answered = omega arith; answered_bytes = omega arith; other = omega arith };
  sums = λ has. sums_begun (map item c.args.lines.now) (outcomes_from c.args.words.now 0 c.args.said.now);
}

pub loop-line-preserved : goal.loop-line-preserved
loop-line-preserved c = let l = c.loop-line in elim c.if-is_operation.branch [
  | then-is_operation w ↦ elim w.match-get.branch [
    | in-Some v ↦ record {
      operation = omega (arith, w.operation-is, w.saturating_add-operation.ensures, l.invariant.operation);
      few = few_more l.operation c.if-is_operation.operation l.sums v.told_one.result c.if-is_operation.sums l.invariant.few v.told_one.ensures.one (omega (arith, w.operation-is, w.saturating_add-operation.ensures, l.invariant.operation, l.auto.line-index-end)) (w.sums-is ∙ v.sums-is ∙ v.together-sums.ensures);
      sums = λ has. let there = looked_up w.get.result c.args.said.now l.operation v.in-Some.outcome v.in-Some.is w.get.ensures.lookup.3 in
          told_more c.args.lines.now c.args.words.now c.args.said.now l.line-index c.line-item.result c.loop-line-test.true c.line-item.is l.operation c.if-is_operation.operation v.in-Some.outcome.now l.sums v.told_one.result c.if-is_operation.sums _
          there (omega (arith, w.operation-is, w.saturating_add-operation.ensures, l.invariant.operation, l.auto.line-index-end)) (sym c.is_operation.ensures ∙ w.if-is_operation.true)
          (v.told_one.ensures.is (λ e. subst HasPosition (sym v.first_word.ensures) (has l.operation (there ∙ ap (λ o. Some o) e))) ∙ ap (λ (word : ℕ). one_of (item c.line-item.result) (unwrap_or v.in-Some.outcome.now (outcome_by_word word))) v.first_word.ensures)
          (w.sums-is ∙ v.sums-is ∙ v.together-sums.ensures) (l.invariant.sums has);
    }
    | in_default v ↦ record {
      operation = omega (arith, w.operation-is, w.saturating_add-operation.ensures, l.invariant.operation);
      few = few_still l.operation c.if-is_operation.operation l.sums c.if-is_operation.sums l.invariant.few (omega (arith, w.operation-is, w.saturating_add-operation.ensures, l.invariant.operation, l.auto.line-index-end)) (w.sums-is ∙ v.sums-is);
      sums = λ has. let spent = none_there w.get.result c.args.said.now l.operation v.in_default.is w.get.ensures.lookup.3 in
          told_spent c.args.lines.now c.args.words.now c.args.said.now l.line-index c.line-item.result c.loop-line-test.true c.line-item.is l.operation c.if-is_operation.operation l.sums c.if-is_operation.sums _ (w.sums-is ∙ v.sums-is)
          spent (omega (arith, spent, w.operation-is, w.saturating_add-operation.ensures, l.invariant.operation, l.auto.line-index-end)) (l.invariant.sums has);
    }
  ]
  | else-is_operation w ↦ record {
    operation = omega (arith, w.operation-is, l.invariant.operation);
    few = few_still l.operation c.if-is_operation.operation l.sums c.if-is_operation.sums l.invariant.few (omega (arith, w.operation-is)) w.sums-is;
    sums = λ has. told_passed_on c.args.lines.now c.args.words.now c.args.said.now l.line-index c.line-item.result c.loop-line-test.true c.line-item.is l.operation c.if-is_operation.operation l.sums c.if-is_operation.sums _ w.sums-is w.operation-is (sym c.is_operation.ensures ∙ w.if-is_operation.false) (l.invariant.sums has);
  }
]

pub returns : goal.returns
returns c = λ has. told_out c.args.lines.now c.args.words.now c.args.said.now c.loop-line.line-index c.loop-line.operation c.loop-line.sums _ (omega (arith, c.loop-line-test.false)) (c.loop-line.invariant.sums has)
