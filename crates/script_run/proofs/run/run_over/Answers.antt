use Rattle.std.proofs.Common.{◌≡◌, ◌≢◌, true, Ok, List, None, IfOk, ap, map, length, sym, subst, slice_get, arith, ◌∙◌}
use Rattle.std.proofs.lemmas.List.{length-map}
use Rattle.std.specs.List.{AllByRecursion}
use Rattle.brpc_model.specs.Items.{Item}
use Rattle.brpc_model.specs.ReturnedLink.{LinkEnd}
use Rattle.brpc_model.specs.Operations.{link_names}
use Rattle.brpc_model.specs.Script.{script_of}
use Rattle.sock_io.specs.LinkHalves.{end_of, new_pacing}
use Rattle.sock_io.specs.declared.link.Mode.TheVariants as mode
use Rattle.script_links.specs.LinksGivenBack.{AreUntouched, specs_of}
use Rattle.script_links.specs.OfferedLinks.{TellOffers}
use Rattle.sock_core.specs.MachineBeginning.{IsMade}
use Rattle.sock_io.specs.LinkHalves.{LinkerState}
use Rattle.script_run.specs.Played.{IsPrinted, TellClosed, turns_of}
use Rattle.script_links.proofs.LinkNumbering.{numbered_of, unused_of, silent_of, all_so, all_mapped}
use Rattle.script_run.proofs.Playing.{numbered_later, count_later}
use Rattle.script_run.proofs.RunTextAndLinks.{text_answered}
use Rattle.script_run.proofs.run.run_over.Goals as goal

pub of-requires-clause-unused : goal.of-requires-clause-unused
of-requires-clause-unused g c = record {
  fresh = c.requires.unfinished;
  unused = unused_of (λ e. end_of (g.L.O.Out.state e.out) (g.L.I.In.state e.inn)) 0 c.args.ends.items c.requires.untouched;
  silent = silent_of (λ e. end_of (g.L.O.Out.state e.out) (g.L.I.In.state e.inn)) 0 c.args.ends.items c.requires.untouched;
  unclosed = c.requires.unclosed;
}

pub play-played-requires-clause-made : goal.play-played-requires-clause-made
play-played-requires-clause-made g c κs within = subst (λ (s : List Item). IsMade s c.in-Ok-of.machine) (c.in-Ok.ensures.0 ∙ sym c.in-Ok.ensures.1) c.in-Ok-of.ensures.made

-- ## Where memory was wanting

pub give_back-requires-clause-numbered : goal.give_back-requires-clause-numbered
give_back-requires-clause-numbered g c κs within = numbered_of 0 _ c.requires.untouched

pub give_back-requires-in-Err-clause-numbered : goal.give_back-requires-in-Err-clause-numbered
give_back-requires-in-Err-clause-numbered g c κs within = rw c.in-Err.ensures.back (numbered_of 0 _ c.requires.untouched)

-- ## Behind the run

pub give_back-requires-2-clause-numbered : goal.give_back-requires-2-clause-numbered
give_back-requires-2-clause-numbered g c κs within =
    numbered_later c.in-Ok-of.machine c.play-played.new.machine _ (subst (AreUntouched 0) (sym c.in-Ok-of.ensures.over.ends) c.requires.untouched) c.play-played.ensures.ends c.finish-outcomes.ensures.ends

pub give_back-requires-2-clause-opened : goal.give_back-requires-2-clause-opened
give_back-requires-2-clause-opened g c κs within =
    ap (λ (s : LinkerState). length s.asked) c.play-played.ensures.says ∙ c.requires.opened
    ∙ sym (count_later (λ e. end_of (g.L.O.Out.state e.out) (g.L.I.In.state e.inn)) c.in-Ok-of.machine c.play-played.new.machine c.finish-outcomes.result.ends.items c.play-played.ensures.ends c.finish-outcomes.ensures.ends ∙ ap length c.in-Ok-of.ensures.over.ends ∙ length-map c.args.ends.items (λ e. end_of (g.L.O.Out.state e.out) (g.L.I.In.state e.inn)))

pub give_back-requires-2-clause-few : goal.give_back-requires-2-clause-few
give_back-requires-2-clause-few g c κs within =
    let few = c.requires.few in
    let count = count_later (λ e. end_of (g.L.O.Out.state e.out) (g.L.I.In.state e.inn)) c.in-Ok-of.machine c.play-played.new.machine c.finish-outcomes.result.ends.items c.play-played.ensures.ends c.finish-outcomes.ensures.ends ∙ ap length c.in-Ok-of.ensures.over.ends ∙ length-map c.args.ends.items (λ e. end_of (g.L.O.Out.state e.out) (g.L.I.In.state e.inn)) in omega (arith, few, count)

pub returns-clause-back : goal.returns-clause-back
returns-clause-back g c =
    ap length c.give_back-2.ensures.back ∙ ap length c.finish-outcomes.ensures.ends ∙ c.play-played.ensures.ends.as_many ∙ ap length c.in-Ok-of.ensures.over.ends ∙ length-map c.args.ends.items (λ e. end_of (g.L.O.Out.state e.out) (g.L.I.In.state e.inn))

pub returns-clause-connections : goal.returns-clause-connections
returns-clause-connections g c =
    let given = c.give_back-2.ensures.connections in let says = c.play-played.ensures.says in (given.0 ∙ ap (λ (s : LinkerState). s.accepted) says, given.1 ∙ ap (λ (s : LinkerState). s.done) says)

pub returns-clause-text : goal.returns-clause-text
returns-clause-text g c =
    let links = map (λ e. end_of (g.L.O.Out.state e.out) (g.L.I.In.state e.inn)) in
    let outline = c.in-Ok.outline in let is = c.in-Ok.ensures.1 in let start = c.in-Ok-of.machine in let over = c.in-Ok-of.ensures.over in
    let played = c.play-played.ensures in let done = c.finish-outcomes.ensures in
    subst (λ (s : List Item). IfOk c.report_played-text.result (λ text. (g.L.Linker.state c.args.links.now).always_ready ≡ true → TellClosed g.L.I.In.state → IsPrinted (TellOffers g.L.Linker.goes_by_shape g.L.O.Out.state g.L.I.In.state) c.args.print s (turns_of s c.args.schedule) text.items (g.L.Linker.state c.give_back-2.new.links).back)) is
    (text_answered c.args.print (λ text. text.items) c.report_played-text.result c.play-played.result c.requires.script.0 outline (turns_of outline c.args.schedule) start c.play-played.new.machine c.deref.result.now c.deref-2.result.now
    (links c.deref-3.result.now) (g.L.Linker.state c.give_back-2.new.links).back (subst (λ (s : List Item). script_of c.requires.script.0 ≡ Ok s) (sym is) c.requires.script.1) (subst (λ (s : List Item). IsMade s start) (c.in-Ok.ensures.0 ∙ sym is) c.in-Ok-of.ensures.made)
    (subst (AreUntouched 0) (sym over.ends) c.requires.untouched) (ap length over.ends ∙ length-map c.args.ends.items (λ e. end_of (g.L.O.Out.state e.out) (g.L.I.In.state e.inn)) ∙ c.requires.all ∙ ap (λ (s : List Item). length (link_names s)) (sym is))
    played.ends done.took done.gave_count done.gave done.letters (c.deref.ensures.value ∙ done.outcomes) (c.deref-2.ensures.value ∙ done.places) (ap links c.deref-3.ensures.value ∙ done.ends) (c.give_back-2.ensures.back ∙ sym (ap links c.deref-3.ensures.value))
    c.report_played-text.ensures.played (λ ready. over.outs (c.requires.always_ready ready)) (λ tell. over.tell (all_so (λ e. (g.L.I.In.state e.inn).closing ≢ None) (λ e. (tell e.inn).0) c.args.ends.items))
    (λ tell. subst (AllByRecursion (λ (e : LinkEnd). e.closed ≢ None)) (sym over.ends) (all_mapped (λ e. end_of (g.L.O.Out.state e.out) (g.L.I.In.state e.inn)) (λ (e : LinkEnd). e.closed ≢ None) (λ e. (tell e.inn).1) c.args.ends.items))
    (TellOffers g.L.Linker.goes_by_shape g.L.O.Out.state g.L.I.In.state) g.L.Linker.goes_by_shape (λ tell. tell.2)
    (λ tell k spec at. let asked = c.requires.offers tell k spec (sym (ap (λ s. slice_get (specs_of mode.Loop s) k) is) ∙ at) in
    (over.offers k spec.shape.serve spec.shape.end asked.0, λ by_shape. over.shapes k (new_pacing spec) (asked.1 by_shape)))
    played.run played.plan c.report_played-text.ensures.text)
