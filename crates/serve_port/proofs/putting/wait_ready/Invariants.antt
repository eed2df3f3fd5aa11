use Rattle.std.proofs.Common.{◌≡◌}
use Rattle.serve_port.proofs.putting.wait_ready.Given as goal

abbrev pub invariant-asks : goal.invariant-asks
invariant-asks g l = record {
  can_go : (goal.iterator-asks g).can_next l.iterator';
  is_finite : (goal.iterator-asks g).is_finite l.iterator';
  took : (g.O.Out.state l.out).took ≡ (g.O.Out.state l.fn.out).took;
  finished : (g.O.Out.state l.out).finished ≡ (g.O.Out.state l.fn.out).finished;
  kept : (g.O.Out.state l.out).faults ≡ (g.O.Out.state l.fn.out).faults;
}
