use Rattle.std.proofs.Common.{◌++◌, ◌∙◌, ap, sym}
use Rattle.std.proofs.lemmas.Result.{on_ok_weaker}
use Rattle.script_report.proofs.ReportLinesByPlaces.{looked_up}
use Rattle.script_report.specs.ReportLines.{label_at}
use Rattle.script_report.proofs.links.push_label.Goals as goal

pub returns-in-Some : goal.returns-in-Some
returns-in-Some c = on_ok_weaker c.push_attempt.result (λ e. e ∙ ap (λ place. c.args.text.now.items ++ label_at place c.args.accepted.attempt) (sym (looked_up c.get.result c.args.places.now c.args.accepted.operation c.in-Some.place c.in-Some.is c.get.ensures.lookup.3))) c.push_attempt.ensures
