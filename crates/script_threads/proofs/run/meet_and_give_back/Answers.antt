use Rattle.std.proofs.Common.{◌≡◌, length, map, sym, ap, ◌∙◌, subst}
use Rattle.sock_io.specs.LinkHalves.{end_of}
use Rattle.script_links.specs.LinksGivenBack.{AreNumbered}
use Rattle.call_run.specs.link_crew.specs.ComparedLinkEnds.{MetBelow}
use Rattle.script_threads.proofs.LinksOpenedAndCompared.{all_written, met_ends}
use Rattle.script_threads.proofs.run.meet_and_give_back.Goals as goal

pub give_back-requires-clause-numbered : goal.give_back-requires-clause-numbered
give_back-requires-clause-numbered g c κs within =
    let old = c.args.ends.items in let new = c.meet_all.new.ends in
    let long : length new ≡ length old = c.meet_all.ensures.ends ∙ ap length c.deref_mut.ensures.value in
    let met = subst (λ l. MetBelow g.L.O.Out.state g.L.P.Peer.state g.L.I.In.state (length l) l new) c.deref_mut.ensures.value c.meet_all.ensures.met in
    subst (λ l. AreNumbered 0 (map (λ e. end_of (g.L.O.Out.state e.out) (g.L.I.In.state e.inn)) l)) (sym (all_written new old c.args.ends.len long c.args.ends.ok.0))
    (subst (AreNumbered 0) (sym (met_ends g.L.Linker.tells_in g.L.O.Out.state g.L.P.Peer.state g.L.I.In.state old new long met)) c.requires.numbered)

pub returns-clause-back : goal.returns-clause-back
returns-clause-back g c =
    let old = c.args.ends.items in let new = c.meet_all.new.ends in
    let long : length new ≡ length old = c.meet_all.ensures.ends ∙ ap length c.deref_mut.ensures.value in
    let met = subst (λ l. MetBelow g.L.O.Out.state g.L.P.Peer.state g.L.I.In.state (length l) l new) c.deref_mut.ensures.value c.meet_all.ensures.met in
    c.give_back.ensures.back ∙ (ap (map (λ e. end_of (g.L.O.Out.state e.out) (g.L.I.In.state e.inn))) (all_written new old c.args.ends.len long c.args.ends.ok.0) ∙ met_ends g.L.Linker.tells_in g.L.O.Out.state g.L.P.Peer.state g.L.I.In.state old new long met)

pub returns-clause-met : goal.returns-clause-met
returns-clause-met g c =
    let old = c.args.ends.items in let new = c.meet_all.new.ends in
    let long : length new ≡ length old = c.meet_all.ensures.ends ∙ ap length c.deref_mut.ensures.value in
    let met = subst (λ l. MetBelow g.L.O.Out.state g.L.P.Peer.state g.L.I.In.state (length l) l new) c.deref_mut.ensures.value c.meet_all.ensures.met in
    (new, long, met, c.give_back.ensures.back ∙ ap (map (λ e. end_of (g.L.O.Out.state e.out) (g.L.I.In.state e.inn))) (all_written new old c.args.ends.len long c.args.ends.ok.0))
