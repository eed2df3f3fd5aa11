use Rattle.std.proofs.Common.{◌≡◌, ◌+◌, ◌++◌, drop, slice_get, Some, refl, ap, sym, ◌∙◌, arith}
use Rattle.std.proofs.lemmas.Option.{slice_get-get_or}
use Rattle.script_report.specs.ReportLines.{outcome_text_lines}
use Rattle.brpc_model.specs.PlaceWords.{outcomes_from}
use Rattle.script_report.proofs.ReportLinesByPlaces.{looked_up}
use Rattle.script_report.proofs.ReportedOrders.{told_ended, told_more}
use Rattle.script_report.proofs.told.push_told.Goals as goal

pub loop-outcome-preserved : goal.loop-outcome-preserved
loop-outcome-preserved c =
    let l = c.loop-outcome in
    let said = c.args.said.now in
    let here = c.outcome-item.result in
    let next : c.saturating_add-operation.result ≡ l.outcome-index + 1 = omega (arith, l.invariant.at) in
    let unsaid : slice_get said l.outcome-index ≡ Some here = slice_get-get_or said l.outcome-index here c.loop-outcome-test.true ∙ ap Some (sym c.outcome-item.is) in
    record {
      at = next;
      text = λ has. told_more l.text.items _ _ (c.args.text.now.items ++ outcome_text_lines c.args.operations.now (outcomes_from c.args.words.now 0 said)) c.args.operations.now c.args.words.now said l.operation l.outcome-index _
          c.in-Some.place.now here l.invariant.at next
          (looked_up c.get.result c.args.operations.now l.operation c.in-Some.place c.in-Some.is c.get.ensures.lookup.3) unsaid
          refl (c.in_ok-push_told_line.ensures (λ none. has l.operation (ap (slice_get said) l.invariant.at ∙ unsaid ∙ ap Some none))) (l.invariant.text has);
    }

pub returns : goal.returns
returns c = let l = c.loop-outcome in λ has. told_ended l.text.items (c.args.text.now.items ++ outcome_text_lines c.args.operations.now (outcomes_from c.args.words.now 0 c.args.said.now)) (drop l.operation c.args.operations.now) c.args.words.now c.args.said.now l.operation l.outcome-index (l.invariant.text has) (omega (arith, c.loop-outcome-test.false))
