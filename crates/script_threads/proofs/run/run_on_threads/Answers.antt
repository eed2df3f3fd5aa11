use Rattle.std.proofs.Common.{ap, ◌∙◌, subst, arith}
use Rattle.std.specs.List.{list_all}
use Rattle.std.specs.Prelude.{OnOk}
use Rattle.script_links.specs.LinksGivenBack.{has_piece, specs_of}
use Rattle.script_links.proofs.LinkNumbering.{numbered_of, links_of, few_links, pieces_of}
use Rattle.script_parts.proofs.ReportOfRun.{on_ok}
use Rattle.script_threads.specs.GaveWhatWasOffered.{GaveOffers}
use Rattle.script_threads.proofs.RepliesOfServedLinks.{served_if}
use Rattle.script_threads.proofs.ReportsOfThreads.{text_if}
use Rattle.script_threads.proofs.run.run_on_threads.Goals as goal

pub open_links-requires-clause-few : goal.open_links-requires-clause-few
open_links-requires-clause-few g c κs within =
    let few = few_links c.requires.script.0 c.args.script.now c.lines.result.now c.requires.script.1 c.lines.ensures in omega (arith, few)

pub open_links-requires-clause-pieces : goal.open_links-requires-clause-pieces
open_links-requires-clause-pieces g c κs within = pieces_of c.lines.result.now ∙ ap (list_all has_piece) c.lines.ensures ∙ c.requires.pieces

pub run_over-requires-clause-all : goal.run_over-requires-clause-all
run_over-requires-clause-all g c κs within = c.in-Ok.ensures.whole ∙ links_of c.args.script.now c.lines.result.now c.lines.ensures

pub run_over-requires-clause-few : goal.run_over-requires-clause-few
run_over-requires-clause-few g c κs within =
    let most = c.in-Ok.ensures.most in
    let few = few_links c.requires.script.0 c.args.script.now c.lines.result.now c.requires.script.1 c.lines.ensures in omega (arith, most, few)

pub give_back-requires-clause-numbered : goal.give_back-requires-clause-numbered
give_back-requires-clause-numbered g c κs within = numbered_of 0 _ c.in-Err.ensures.fresh

pub give_back-requires-clause-few : goal.give_back-requires-clause-few
give_back-requires-clause-few g c κs within =
    let most = c.in-Err.ensures.most in
    let few = few_links c.requires.script.0 c.args.script.now c.lines.result.now c.requires.script.1 c.lines.ensures in omega (arith, most, few)

pub returns-in-Ok-clause-text : goal.returns-in-Ok-clause-text
returns-in-Ok-clause-text g c = text_if g.row.L-P.Denot g.L.O.Out.state g.L.I.In.state g.L.O.Out c.requires.script.0 c.args.script.now c.requires.script.1 _ (λ text. text.items) c.run_over.result c.run_over.ensures.ran

pub returns-in-Ok-clause-all : goal.returns-in-Ok-clause-all
returns-in-Ok-clause-all g c = on_ok c.run_over.result _ (c.run_over.ensures.back ∙ (c.in-Ok.ensures.whole ∙ links_of c.args.script.now c.lines.result.now c.lines.ensures))

pub returns-in-Ok-clause-gave : goal.returns-in-Ok-clause-gave
returns-in-Ok-clause-gave g c = subst (λ specs. OnOk c.run_over.result (GaveOffers g.L.Linker.tells_in specs (g.L.Linker.state c.run_over.new.links).back)) (c.in-Ok.ensures.asked ∙ ap (specs_of c.args.mode) c.lines.ensures) c.run_over.ensures.gave

pub returns-in-Ok-clause-served : goal.returns-in-Ok-clause-served
returns-in-Ok-clause-served g c = served_if g.row.L-P.Denot g.L.O.Out.state g.L.I.In.state g.L.O.Out c.requires.script.0 c.args.script.now c.requires.script.1 _ g.L.Linker.tells_in c.args.mode (λ text. text.items) c.run_over.result c.run_over.ensures.ran
    (subst (λ specs. OnOk c.run_over.result (GaveOffers g.L.Linker.tells_in specs (g.L.Linker.state c.run_over.new.links).back)) (c.in-Ok.ensures.asked ∙ ap (specs_of c.args.mode) c.lines.ensures) c.run_over.ensures.gave)
