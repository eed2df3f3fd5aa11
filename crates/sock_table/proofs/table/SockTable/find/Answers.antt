use Rattle.std.proofs.Common.{◌-◌, refl}
use Rattle.sock_model.specs.SocketTableLayout.{name_index}
use Rattle.sock_table.proofs.NamingKeepsTokens.{read_id, id_between, id_same, id_known}
use Rattle.sock_table.proofs.table.SockTable.find.Goals as goal

pub returns-else-word-eq0-clause-found : goal.returns-else-word-eq0-clause-found
returns-else-word-eq0-clause-found g c = let a = c.load_name-word.ensures.inside c.if-word-eq0.false in
    let e = read_id (name_index c.args.self.now.rule.plan c.args.name) c.load_name-word.result c.args.seat.now.me c.load_name-word.new.seat.me c.load_name-word.ensures.view c.if-word-eq0.false (λ z. c.if-prove-2.false z) (c.load_name-word.result - 1) refl in
    (id_known c.args.self.now.rule.plan (name_index c.args.self.now.rule.plan c.args.name) (c.load_name-word.result - 1) c.args.seat.now.me.0 c.load_name-word.new.seat.me.0 e a, e)

pub returns-else-word-eq0-clause-between : goal.returns-else-word-eq0-clause-between
returns-else-word-eq0-clause-between g c = id_between c.args.self.now.rule.plan (name_index c.args.self.now.rule.plan c.args.name) (c.load_name-word.result - 1) c.args.seat.now.me.0 c.load_name-word.new.seat.me.0 (returns-else-word-eq0-clause-found g c).1

pub returns-else-word-eq0-clause-same : goal.returns-else-word-eq0-clause-same
returns-else-word-eq0-clause-same g c = id_same c.args.self.now.rule.plan (name_index c.args.self.now.rule.plan c.args.name) (c.load_name-word.result - 1) c.args.seat.now.me.0 c.load_name-word.new.seat.me.0 (returns-else-word-eq0-clause-found g c).1
