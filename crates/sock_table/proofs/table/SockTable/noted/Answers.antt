use Rattle.std.proofs.Common.{◌-◌, refl}
use Rattle.sock_model.specs.SocketTableLayout.{open_index}
use Rattle.sock_table.proofs.NamingKeepsTokens.{read_nothing, read_id, id_between, id_same, id_known, nothing_between}
use Rattle.sock_table.proofs.table.SockTable.noted.Goals as goal

pub returns-then-word-clause-noted : goal.returns-then-word-clause-noted
returns-then-word-clause-noted g c = read_nothing (open_index c.args.self.now.rule.plan c.args.operation) c.load_open-word.result c.args.seat.now.me c.load_open-word.new.seat.me c.load_open-word.ensures.view c.if-word.true

pub returns-then-word-clause-between : goal.returns-then-word-clause-between
returns-then-word-clause-between g c = nothing_between c.args.self.now.rule.plan (open_index c.args.self.now.rule.plan c.args.operation) _ _ c.args.seat.now.me.0 c.load_open-word.new.seat.me.0 (returns-then-word-clause-noted g c).view

pub returns-else-word-clause-noted : goal.returns-else-word-clause-noted
returns-else-word-clause-noted g c = let a = c.load_open-word.ensures.inside c.if-word-eq0.false c.if-word.false in
    let e = read_id (open_index c.args.self.now.rule.plan c.args.operation) c.load_open-word.result c.args.seat.now.me c.load_open-word.new.seat.me c.load_open-word.ensures.view c.if-word-eq0.false c.if-word.false (c.load_open-word.result - 1) refl in
    (id_known c.args.self.now.rule.plan (open_index c.args.self.now.rule.plan c.args.operation) (c.load_open-word.result - 1) c.args.seat.now.me.0 c.load_open-word.new.seat.me.0 e a, e)

pub returns-else-word-clause-between : goal.returns-else-word-clause-between
returns-else-word-clause-between g c = id_between c.args.self.now.rule.plan (open_index c.args.self.now.rule.plan c.args.operation) (c.load_open-word.result - 1) c.args.seat.now.me.0 c.load_open-word.new.seat.me.0 (returns-else-word-clause-noted g c).1

pub returns-else-word-clause-same : goal.returns-else-word-clause-same
returns-else-word-clause-same g c = id_same c.args.self.now.rule.plan (open_index c.args.self.now.rule.plan c.args.operation) (c.load_open-word.result - 1) c.args.seat.now.me.0 c.load_open-word.new.seat.me.0 (returns-else-word-clause-noted g c).1
