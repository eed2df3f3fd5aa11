use Rattle.std.proofs.Common.{ap}
use Rattle.sock_table.proofs.Learning.{both_between}
use Rattle.sock_table.proofs.table.SockTable.take_in.Goals as goal

pub returns-clause-between : goal.returns-clause-between
returns-clause-between g c = both_between c.args.self.now.rule.plan c.args.seat.now.me.0 c.args.from.me.0 c.take_in.new.seat.me.0 (ap (λ m. m.0) c.take_in.ensures.view)
