use Rattle.std.proofs.Common.{subst, slice_index_or}
use Rattle.call_run.specs.Working.{HasWorked}
use Rattle.call_run.proofs.worker.run_workers.Goals as goal

pub returns-clause-each : goal.returns-clause-each
returns-clause-each g c i d lt = let state = g.O.Out.state in let z = c.args.tables.now.socks.rule.table.shared.table_id in let p = c.args.tables.now.socks.rule.plan in let y = c.args.tables.now.ids.table.shared.table_id in let q = c.args.tables.now.ids.plan in let names = c.args.names.now in let k = (c.for_each_mut.ensures i d lt).1 in
    subst (λ x. HasWorked state z p y q names x (slice_index_or c.for_each_mut.new.s i d)) k.argument_is (subst (λ w. HasWorked state z p y q names k.argument.now w) k.left k.call)
