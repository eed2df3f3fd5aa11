use Rattle.std.proofs.Common.{ap}
use Rattle.sock_model.specs.SocketTableLayout.{open_index}
use Rattle.sock_table.proofs.NamingKeepsTokens.{put_between, put_same}
use Rattle.sock_table.proofs.table.SockTable.note.Goals as goal

pub returns-in-Some-clause-between : goal.returns-in-Some-clause-between
returns-in-Some-clause-between g c = put_between c.args.self.now.rule.plan (open_index c.args.self.now.rule.plan c.args.operation) _ _ c.args.seat.now.me.0 c.store_open.new.seat.me.0 (ap (λ m. m.0) c.store_open.ensures.noted.view)

pub returns-in-None-clause-between : goal.returns-in-None-clause-between
returns-in-None-clause-between g c = put_between c.args.self.now.rule.plan (open_index c.args.self.now.rule.plan c.args.operation) _ _ c.args.seat.now.me.0 c.store_nothing.new.seat.me.0 (ap (λ m. m.0) c.store_nothing.ensures.noted.view)

pub returns-in-Some-clause-same : goal.returns-in-Some-clause-same
returns-in-Some-clause-same g c = put_same c.args.self.now.rule.plan (open_index c.args.self.now.rule.plan c.args.operation) _ _ c.args.seat.now.me.0 c.store_open.new.seat.me.0 (ap (λ m. m.0) c.store_open.ensures.noted.view)

pub returns-in-None-clause-same : goal.returns-in-None-clause-same
returns-in-None-clause-same g c = put_same c.args.self.now.rule.plan (open_index c.args.self.now.rule.plan c.args.operation) _ _ c.args.seat.now.me.0 c.store_nothing.new.seat.me.0 (ap (λ m. m.0) c.store_nothing.ensures.noted.view)
