use Rattle.std.proofs.Common.{ap, map, ◌∙◌}
use Rattle.sock_io.specs.LinkHalves.{end_of}
use Rattle.script_items.specs.LineMeaning.{item}
use Rattle.script_run.specs.Outlines.{outlined}
use Rattle.script_run.specs.Played.{IsPrintOf}
use Rattle.script_run.proofs.Outlined.{print_same}
use Rattle.script_run.proofs.LinksTellingTaken.{reported}
use Rattle.script_run.proofs.report.report.Goals as goal

pub returns : goal.returns
returns g c =
    reported (λ text. text.items) (λ bytes. bytes.now) (λ e. end_of (g.O.Out.state e.out) (g.I.In.state e.inn)) (IsPrintOf c.args.print) c.printed.result c.deref.result.now (map outlined c.args.script) c.args.script c.args.outcomes.now
    c.args.places.now c.args.ends.now c.in_ok-took.took.items c.deref-2.result.now (ap (map item) c.deref.ensures.value ∙ c.in_ok-lines.ensures) (λ os x text. print_same c.args.print c.args.script os c.args.places.now x text)
    c.deref-2.ensures.value c.in_ok-took.ensures c.printed.ensures
