use Rattle.std.proofs.Common.{◌≡◌, List, ◌++◌, map}
use Rattle.std.specs.Prelude.{All}
use Rattle.std.specs.Vec.Iter.{into_iter_items}
use Rattle.serve_port.specs.ServingConnections.{ServedConnection}
use Rattle.serve_port.specs.ServiceSteps.{IsFinished, IsTally, as_served}
use Rattle.serve_port.proofs.port.give_back.Given as goal

abbrev pub invariant-gives : goal.invariant-gives
invariant-gives g l =
    (goal.iterator-gives g).can_next l.connection-iterator ×
    (goal.iterator-gives g).is_finite l.connection-iterator × record {
      given : List ServedConnection;
      parts : given ++ map (λ c. as_served g.L.O.Out.state g.L.I.In.state c) (into_iter_items l.connection-iterator) ≡ map (λ c. as_served g.L.O.Out.state g.L.I.In.state c) l.fn.kept.items;
      links : g.L.Linker.state l.links ≡ record (g.L.Linker.state l.fn.links) { done = (g.L.Linker.state l.fn.links).done ++ map (λ s. s.connection) given };
      finished : All (IsFinished g.L.O.Out.state) (into_iter_items l.connection-iterator);
      tally : IsTally given l.tally;
    }
