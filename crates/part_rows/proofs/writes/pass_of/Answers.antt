use Rattle.std.proofs.Common.{subst, Some}
use Rattle.sock_open.specs.NewTableContents.{PassesFrom}
use Rattle.sock_open.proofs.Racing.{pass_popped}
use Rattle.part_rows.proofs.writes.pass_of.Goals as goal

pub returns : goal.returns
returns c = let z = c.args.table.now.rule.table.shared.table_id in let p = c.args.table.now.rule.plan in (pass_popped z p 0 c.pop.new.self.items (Some c.in_ok-pass.pass) (subst (PassesFrom z p 0) c.in_ok-pass.ensures.items c.requires)).1
