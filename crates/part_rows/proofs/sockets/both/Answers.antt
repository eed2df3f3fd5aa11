use Rattle.std.proofs.Common.{subst, Some}
use Rattle.sock_open.specs.NewTableContents.{PassesFrom}
use Rattle.sock_open.proofs.Racing.{pass_popped}
use Rattle.part_rows.proofs.sockets.both.Goals as goal

pub returns-clause-first : goal.returns-clause-first
returns-clause-first c = let z = c.args.table.now.rule.table.shared.table_id in let p = c.args.table.now.rule.plan in let left = (pass_popped z p 0 c.pop.new.self.items (Some c.in_ok-second.second) (subst (PassesFrom z p 0) c.in_ok-second.ensures.items c.requires)).0 in (pass_popped z p 0 c.pop-2.new.self.items (Some c.in_ok-first.first) (subst (PassesFrom z p 0) c.in_ok-first.ensures.items left)).1

pub returns-clause-second : goal.returns-clause-second
returns-clause-second c = let z = c.args.table.now.rule.table.shared.table_id in let p = c.args.table.now.rule.plan in (pass_popped z p 0 c.pop.new.self.items (Some c.in_ok-second.second) (subst (PassesFrom z p 0) c.in_ok-second.ensures.items c.requires)).1
