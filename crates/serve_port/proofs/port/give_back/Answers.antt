use Rattle.std.proofs.Common.{List, ◌++◌, ◌∷◌, [], refl, ap, ◌∙◌}
use Rattle.brpc_model.specs.ReturnedLink.{LinkEnd}
use Rattle.sock_io.specs.LinkHalves.{LinkerState}
use Rattle.serve_port.specs.ServiceSteps.{as_served}
use Rattle.serve_port.proofs.Guests.{rest_finished}
use Rattle.serve_port.proofs.Tallying.{done_more, more_given}
use Rattle.serve_port.proofs.port.give_back.Goals as goal

pub gives-preserved : goal.gives-preserved
gives-preserved g c = let i = c.gives.invariant.2 in let x = as_served g.L.O.Out.state g.L.I.In.state c.in-Some.connection in let e = c.done.ensures in (
  tt,
  tt,
  record {
    given = i.given ++ x ∷ [];
    parts = more_given (λ y. as_served g.L.O.Out.state g.L.I.In.state y) i.given _ _ c.in-Some.connection _ i.parts c.in-Some.ensures.steps.0;
    links = e ∙ (ap (λ (s : LinkerState). record s { done = s.done ++ x.connection ∷ [] }) i.links ∙ ap (λ (d : List LinkEnd). record (g.L.Linker.state c.args.links.now) { done = d }) (done_more _ _ _ i.given x refl refl));
    finished = rest_finished g.L.O.Out.state g.L.I.In.state _ _ c.in-Some.connection i.finished c.in-Some.ensures.steps.0;
    tally = c.with-tally.ensures i.given x.connection i.tally;
  },
)
