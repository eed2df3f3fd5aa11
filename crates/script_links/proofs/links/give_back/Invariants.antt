use Rattle.std.proofs.Common.{◌≡◌, ◌<◌, ◌++◌, length, map}
use Rattle.std.specs.List.{AllByRecursion}
use Rattle.std.specs.Vec.Iter.{into_iter_items}
use Rattle.brpc_model.specs.ReturnedLink.{LinkEnd}
use Rattle.sock_io.specs.LinkHalves.{end_of}
use Rattle.script_links.specs.LinksGivenBack.{AreNumbered, SameConnections}
use Rattle.script_links.proofs.links.give_back.Given as goal

abbrev pub invariant-loop-ends : goal.invariant-loop-ends
invariant-loop-ends g l =
    (goal.iterator-loop-ends g).can_next l.ends-iterator ×
    (goal.iterator-loop-ends g).is_finite l.ends-iterator × record {
      link : l.link ≡ length (g.L.Linker.state l.links).back;
      numbered : AreNumbered l.link (map (λ e. end_of (g.L.O.Out.state e.out) (g.L.I.In.state e.inn)) (into_iter_items l.ends-iterator));
      lower : AllByRecursion (λ (e : LinkEnd). e.link < l.link) (g.L.Linker.state l.links).back;
      whole : (g.L.Linker.state l.links).back ++ map (λ e. end_of (g.L.O.Out.state e.out) (g.L.I.In.state e.inn)) (into_iter_items l.ends-iterator) ≡ map (λ e. end_of (g.L.O.Out.state e.out) (g.L.I.In.state e.inn)) l.fn.ends.items;
      asked : (g.L.Linker.state l.links).asked ≡ (g.L.Linker.state l.initial.links).asked;
      faults : (g.L.Linker.state l.links).faults ≡ (g.L.Linker.state l.initial.links).faults;
      always_ready : (g.L.Linker.state l.links).always_ready ≡ (g.L.Linker.state l.initial.links).always_ready;
      connections : SameConnections (g.L.Linker.state l.initial.links) (g.L.Linker.state l.links);
    }
