use Rattle.std.proofs.Common.{ap}
use Rattle.sock_model.specs.SocketTableLayout.{name_index}
use Rattle.sock_table.proofs.NamingKeepsTokens.{put_between, put_same}
use Rattle.sock_table.proofs.table.SockTable.publish.Goals as goal

pub returns-clause-between : goal.returns-clause-between
returns-clause-between g c = put_between c.args.self.now.rule.plan (name_index c.args.self.now.rule.plan c.args.name) _ _ c.args.seat.now.me.0 c.store_name.new.seat.me.0 (ap (λ m. m.0) c.store_name.ensures.view.view)

pub returns-clause-same : goal.returns-clause-same
returns-clause-same g c = put_same c.args.self.now.rule.plan (name_index c.args.self.now.rule.plan c.args.name) _ _ c.args.seat.now.me.0 c.store_name.new.seat.me.0 (ap (λ m. m.0) c.store_name.ensures.view.view)
