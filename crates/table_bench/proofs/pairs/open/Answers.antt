use Rattle.std.proofs.Common.{subst, Some}
use Rattle.sock_open.specs.NewTableContents.{PassesFrom}
use Rattle.sock_open.proofs.Racing.{pass_popped}
use Rattle.sock_open.proofs.SeatsHoldingNothing.{done_between}
use Rattle.table_bench.proofs.pairs.open.Goals as goal

pub create-requires-clause-seat : goal.create-requires-clause-seat
create-requires-clause-seat c = c.requires.seat.seat

pub create-requires-clause-between : goal.create-requires-clause-between
create-requires-clause-between c = let z = c.args.table.now.rule.table.shared.table_id in let p = c.args.table.now.rule.plan in done_between z p c.args.seat c.requires.seat

pub create-requires-clause-pass : goal.create-requires-clause-pass
create-requires-clause-pass c = let z = c.args.table.now.rule.table.shared.table_id in let p = c.args.table.now.rule.plan in (pass_popped z p 0 c.pop.new.self.items (Some c.in_ok-pass.pass) (subst (PassesFrom z p 0) c.in_ok-pass.ensures.items c.requires.passes)).1
