use Rattle.io_block.proofs.Free.{free_kept, free_last}
use Rattle.std.proofs.Common.{arith}
use Rattle.io_block.proofs.kept.Kept.pop.Goals as goal

pub invariant_of-self : goal.invariant_of-self
invariant_of-self c = record {
  at_most = omega (arith, c.self.invariant.at_most);
  free = free_kept c.self.inside.kept c.self.inside.count _ c.self.invariant.free;
}

pub returns-clause-block : goal.returns-clause-block
returns-clause-block c =
    free_last c.self.inside.kept c.self.inside.count c.replace.result c.index-self-self.result (omega arith) (omega arith) c.self.invariant.free c.replace.ensures.value
