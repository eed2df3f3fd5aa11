use Rattle.serve_port.proofs.ConnectionServed.{Talks}
use Rattle.serve_port.proofs.talking.talk.Given as goal

abbrev pub invariant-takes : goal.invariant-takes
invariant-takes g l = record {
  can_go : (goal.iterator-takes g).can_next l.iterator';
  is_finite : (goal.iterator-takes g).is_finite l.iterator';
  talks : Talks l.left l.conn (g.O.Out.state l.out) (g.I.In.state l.inn);
}
