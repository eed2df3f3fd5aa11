use Rattle.rpc_reader.specs.Throwing.{ThrewOn}
use Rattle.rpc_reader.proofs.throwing.throw_all.Given as goal

abbrev pub invariant-throws : goal.invariant-throws
invariant-throws g l = record {
  can_go : (goal.iterator-throws g).can_next l.iterator';
  is_finite : (goal.iterator-throws g).is_finite l.iterator';
  on : ThrewOn l.ending l.initial.total l.total (g.I.In.state l.fn.inn) (g.I.In.state l.inn);
}
