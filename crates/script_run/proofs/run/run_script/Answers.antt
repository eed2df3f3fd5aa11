use Rattle.std.proofs.Common.{◌≡◌, Err, List, map, refl, ap, sym, subst, ◌∙◌, arith}
use Rattle.std.specs.List.{list_all}
use Rattle.sock_io.specs.declared.link.LinkSpec.{LinkSpec}
use Rattle.sock_io.specs.declared.link.Mode.TheVariants as mode
use Rattle.sock_io.specs.declared.link.OpenFault.TheVariants.{Failed}
use Rattle.script_links.specs.LinksGivenBack.{has_piece, specs_of}
use Rattle.script_links.specs.OfferedLinks.{AreAsked}
use Rattle.script_links.proofs.LinkNumbering.{numbered_of, links_of, few_links, pieces_of}
use Rattle.script_run.proofs.run.run_script.Goals as goal

pub open_links-opened-requires-clause-few : goal.open_links-opened-requires-clause-few
open_links-opened-requires-clause-few g c κs within =
    let few = few_links c.requires.script.0 c.args.script c.lines.result.now c.requires.script.1 c.lines.ensures in omega (arith, few)

pub open_links-opened-requires-clause-pieces : goal.open_links-opened-requires-clause-pieces
open_links-opened-requires-clause-pieces g c κs within = pieces_of c.lines.result.now ∙ ap (list_all has_piece) c.lines.ensures ∙ c.requires.pieces

pub run_over-requires-clause-all : goal.run_over-requires-clause-all
run_over-requires-clause-all g c κs within = c.in-Ok.ensures.whole ∙ links_of c.args.script c.lines.result.now c.lines.ensures

pub run_over-requires-clause-few : goal.run_over-requires-clause-few
run_over-requires-clause-few g c κs within =
    let most = c.in-Ok.ensures.most in
    let few = few_links c.requires.script.0 c.args.script c.lines.result.now c.requires.script.1 c.lines.ensures in omega (arith, most, few)

pub run_over-requires-clause-always_ready : goal.run_over-requires-clause-always_ready
run_over-requires-clause-always_ready g c κs within always_ready = c.in-Ok.ensures.prompt_each (sym c.in-Ok.ensures.always_ready ∙ always_ready) refl

pub run_over-requires-clause-offers : goal.run_over-requires-clause-offers
run_over-requires-clause-offers g c κs within tell =
    subst (λ (specs : List LinkSpec). AreAsked g.L.Linker.goes_by_shape specs (map (λ e. g.L.O.Out.state e.out) c.open_links-opened.new.ends.items) (map (λ e. g.L.I.In.state e.inn) c.open_links-opened.new.ends.items))
    (c.in-Ok.ensures.asked ∙ ap (specs_of mode.Loop) c.lines.ensures) (c.in-Ok.ensures.offers tell)

pub give_back-requires-clause-numbered : goal.give_back-requires-clause-numbered
give_back-requires-clause-numbered g c κs within = numbered_of 0 _ c.in-Err.ensures.fresh

pub give_back-requires-clause-few : goal.give_back-requires-clause-few
give_back-requires-clause-few g c κs within =
    let most = c.in-Err.ensures.most in
    let few = few_links c.requires.script.0 c.args.script c.lines.result.now c.requires.script.1 c.lines.ensures in omega (arith, most, few)

pub returns-in-Ok-run_over-clause-all : goal.returns-in-Ok-run_over-clause-all
returns-in-Ok-run_over-clause-all g c = c.run_over.ensures.back ∙ c.in-Ok.ensures.whole ∙ links_of c.args.script c.lines.result.now c.lines.ensures

pub returns-in-Ok-run_over-clause-text : goal.returns-in-Ok-run_over-clause-text
returns-in-Ok-run_over-clause-text g c always_ready tell = c.in-Ok-run_over.ensures.text (c.in-Ok.ensures.always_ready ∙ always_ready) tell

pub returns-in-Ok-run_over-clause-cause : goal.returns-in-Ok-run_over-clause-cause
returns-in-Ok-run_over-clause-cause g c =
    let opened = c.in-Ok.ensures in
    rw c.run_over.ensures.faults (record { later = opened.later; failed = λ e. absurd (cc); kept = λ other. opened.kept (λ e. absurd (cc)) })

pub returns-in-Err-run_over-clause-cause : goal.returns-in-Err-run_over-clause-cause
returns-in-Err-run_over-clause-cause g c =
    let opened = c.in-Ok.ensures in
    rw c.run_over.ensures.faults (record { later = opened.later; failed = λ e. absurd (cc); kept = λ other. opened.kept (λ e. absurd (cc)) })

pub returns-in-Err-clause-cause : goal.returns-in-Err-clause-cause
returns-in-Err-clause-cause g c =
    let opened = c.in-Err.ensures in
    rw c.give_back.ensures.faults (record {
      later = opened.later;
      failed = λ e. let is : c.in-Err.fault ≡ Failed = cc in opened.failed (ap (λ x. Err x) is);
      kept = λ other. opened.kept (λ e. let is : c.in-Err.fault ≡ Failed = cc in other (ap (λ x. Err x) is));
    })
