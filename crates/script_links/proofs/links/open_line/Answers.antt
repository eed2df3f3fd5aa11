use Rattle.std.proofs.Common.{◌≡◌, ◌<◌, ℕ, true, ap, sym, subst, ◌∙◌, rules}
use Rattle.std.proofs.lemmas.Bool.{ltb-true}
use Rattle.brpc_model.specs.Items.{is_open}
use Rattle.script_items.specs.LineMeaning.{item}
use Rattle.script_items.specs.declared.line.Line.{Line}
use Rattle.sock_io.specs.declared.link.LinkSpec.{LinkSpec}
use Rattle.script_links.specs.LinksGivenBack.{has_piece}
use Rattle.script_links.proofs.LinkNumbering.{untouched, opened_more, all_with}
use Rattle.script_links.proofs.OffersOfOpenedLinks.{asked_with}
use Rattle.script_links.proofs.OpeningLinksInOrder.{opened_with}
use Rattle.script_links.proofs.links.open_line.Goals as goal

pub returns-clause-fresh : goal.returns-clause-fresh
returns-clause-fresh g c old = opened_more _ _ _ c.in_ok-opened.opened old (search rules) (untouched _ _ _ _ c.in_ok-opened.ensures.fresh c.requires.opened)

pub returns-clause-unfinished : goal.returns-clause-unfinished
returns-clause-unfinished g c old = all_with _ _ _ c.in_ok-opened.opened old (search rules) c.in_ok-opened.ensures.fresh.unused.finished

pub returns-clause-prompt_each : goal.returns-clause-prompt_each
returns-clause-prompt_each g c always_ready loop old = all_with _ _ _ c.in_ok-opened.opened old (search rules) (c.in_ok-opened.ensures.always_ready always_ready (ap (λ (s : LinkSpec). s.mode) c.spec_of.ensures ∙ loop))

pub open-requires : goal.open-requires
open-requires g c =
    let piece = subst (λ (l : Line). has_piece (item l) ≡ true) c.in-Open.is c.requires.piece in
    let opens = ap (λ (l : Line). is_open (item l)) c.in-Open.is in
    (subst (λ (s : LinkSpec). 0 < s.shape.piece) (sym c.spec_of.ensures) (ltb-true 0 c.in-Open.open.shape.piece piece), subst (λ (n : ℕ). n < 256) (sym c.requires.opened) (search rules))

pub returns-clause-unclosed : goal.returns-clause-unclosed
returns-clause-unclosed g c old = all_with _ _ _ c.in_ok-opened.opened old (search rules) c.in_ok-opened.ensures.fresh.closing

pub returns-clause-offers : goal.returns-clause-offers
returns-clause-offers g c tell old =
    let opened = c.in_ok-opened in
    asked_with g.L.Linker.goes_by_shape (λ e. g.L.O.Out.state e.out) (λ e. g.L.I.In.state e.inn) _ _ _ _ opened.opened _ c.spec_of.result c.requires.opened opened.ensures.asked (search rules) opened.ensures.fresh opened.ensures.offer opened.ensures.shaped
    (tell.0 opened.opened.out) (tell.1 opened.opened.inn).0 (tell.1 opened.opened.inn).1 old

pub returns-clause-ends : goal.returns-clause-ends
returns-clause-ends g c old =
    let opened = c.in_ok-opened in let e = opened.ensures in
    opened_with g.L.Linker.tells_in g.L.O.Out.state g.L.P.Peer.state g.L.I.In.state _ _ _ _ c.spec_of.result opened.opened e.asked (search rules) (record { one = e.one; new = e.peer; asked = e.other; tells = e.tells }) old
