use Rattle.std.proofs.Common.{subst}
use Rattle.std.specs.Prelude.{All}
use Rattle.sock_table.specs.LinkPasses.{IsPass}
use Rattle.call_run.proofs.hiring.hire.Goals as goal

pub returns-clause-go : goal.returns-clause-go
returns-clause-go g c z y p new sits free passes = c.new-caller.ensures.go z y p new sits free (subst (λ v. All (IsPass z p) v.items) c.new-caller.ensures.passes passes)
