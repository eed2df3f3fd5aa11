use Rattle.std.proofs.Common.{map, subst}
use Rattle.brpc_model.specs.PlaceWords.{IsReportText}
use Rattle.script_items.specs.LineMeaning.{item}
use Rattle.script_parts.proofs.ReportOfRun.{told_of}
use Rattle.script_parts.proofs.reporting.report.Goals as goal

pub returns : goal.returns
returns g c = record {
  are_places = c.requires.places;
  each = c.requires.each;
  took = map (λ bytes. bytes.now) c.in_ok-took.took.items;
  told = told_of g.O.Out.state g.I.In.state c.args.ends.now _ c.in_ok-took.ensures;
  report = subst (λ script. IsReportText script c.args.said.now c.args.places.now (map (λ bytes. bytes.now) c.in_ok-took.took.items) c.in_ok-text.text.items) c.lines.ensures
      (subst (λ took. IsReportText (map item c.lines.result.now) c.args.said.now c.args.places.now (map (λ bytes. bytes.now) took) c.in_ok-text.text.items) c.deref.ensures.value (c.in_ok-text.ensures c.requires.places c.requires.each));
}
