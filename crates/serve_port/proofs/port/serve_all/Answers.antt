use Rattle.std.proofs.Common.{◌≡◌, sym, subst}
use Rattle.sock_io.specs.LinkHalves.{LinkerState}
use Rattle.serve_port.specs.ServingConnections.{GivesBackFinished, ServesConnections}
use Rattle.serve_port.specs.ServiceSteps.{HasServed, as_served}
use Rattle.serve_port.proofs.Guests.{none_served, from_none, all_served, accepted_finished}
use Rattle.serve_port.proofs.port.serve_all.Goals as goal

pub returns-in_default-clause-serves : goal.returns-in_default-clause-serves
returns-in_default-clause-serves g c = none_served _ _

pub returns-clause-serves : goal.returns-clause-serves
returns-clause-serves g c =
    let links : c.links-1.given.0 ≡ c.give_back-tally.new.links = c.links-1.given.1 (sym c.serve_rest-accepted.ensures.name) in
    let e = c.give_back-tally.ensures in
    let was = HasServed g.L.O.Out.state g.L.I.In.state in
    let all = all_served was (as_served g.L.O.Out.state g.L.I.In.state) (λ x h. h.serves) c.from-count.result _ _ (g.L.Linker.state c.give_back-tally.new.links) _ c.reverse.new.self.items c.serve_rest-accepted.result c.answer.result
    (from_none was c.from-count.result _ _ _ _ c.serve_rest-accepted.result c.in-Ok.ensures.items c.serve_rest-accepted.ensures.accepts)
    c.reverse.ensures.items
    e.links
    (λ x. c.answer.ensures _ _ _ _ e.tally x) in
    let old : LinkerState = g.L.Linker.state c.args.links.now in
    let new : LinkerState = g.L.Linker.state c.links-1.given.0 in
    let turned : ServesConnections c.from-count.result old new c.answer.result = subst (λ l. ServesConnections c.from-count.result old (g.L.Linker.state l) c.answer.result) (sym links) all in
    subst (λ n. ServesConnections n old new c.answer.result) c.from-count.ensures turned

pub returns-clause-finished : goal.returns-clause-finished
returns-clause-finished g c =
    let links : c.links-1.given.0 ≡ c.give_back-tally.new.links = c.links-1.given.1 (sym c.serve_rest-accepted.ensures.name) in
    let was = HasServed g.L.O.Out.state g.L.I.In.state in
    let old : LinkerState = g.L.Linker.state c.args.links.now in
    let given = accepted_finished g.L.O.Out.state g.L.I.In.state c.from-count.result old _ (g.L.Linker.state c.give_back-tally.new.links) _ c.reverse.new.self.items c.serve_rest-accepted.result
    (from_none was c.from-count.result _ _ _ _ c.serve_rest-accepted.result c.in-Ok.ensures.items c.serve_rest-accepted.ensures.accepts)
    c.reverse.ensures.items
    c.give_back-tally.ensures.links in
    subst (λ l. GivesBackFinished g.L.O.Out.state g.L.I.In.state old (g.L.Linker.state l)) (sym links) given
