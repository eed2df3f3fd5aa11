use Rattle.link_crew.specs.ServingOtherEnd.{ServedOn}
use Rattle.link_crew.proofs.serving.serve_to_end.Given as goal

abbrev pub invariant-serves : goal.invariant-serves
invariant-serves g l = record {
  can_go : (goal.iterator-serves g).can_next l.iterator';
  is_finite : (goal.iterator-serves g).is_finite l.iterator';
  on : ServedOn l.short (g.P.Peer.state l.fn.peer) (g.P.Peer.state l.peer);
}
