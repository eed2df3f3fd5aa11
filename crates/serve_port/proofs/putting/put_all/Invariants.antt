use Rattle.std.proofs.Common.{◌≡◌, ℕ, List, ◌++◌}
use Rattle.std.specs.Io.KnownBytes.{append_known}
use Rattle.serve_port.proofs.putting.put_all.Given as goal

abbrev pub invariant-puts : goal.invariant-puts
invariant-puts g l = record {
  can_go : (goal.iterator-puts g).can_next l.iterator';
  is_finite : (goal.iterator-puts g).is_finite l.iterator';
  part : List ℕ;
  begins : part ++ l.bytes.items ≡ l.fn.bytes.items;
  took : (g.O.Out.state l.out).took ≡ append_known (g.O.Out.state l.fn.out).took part;
  finished : (g.O.Out.state l.out).finished ≡ (g.O.Out.state l.fn.out).finished;
  kept : (g.O.Out.state l.out).faults ≡ (g.O.Out.state l.fn.out).faults;
}
