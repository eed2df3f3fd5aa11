use mir.Syntax.{of_param}
use Rattle.std.proofs.Common.{subst, sym, ◌∙◌}
use Rattle.call_run.specs.LinksBesideClients.{IsLinksRoom}
use Rattle.call_run.proofs.ThreadTypeBounds.{unseen_quiet}
use Rattle.call_run.proofs.ReadingsInTurn.{all_ready, seated_long, links_ran}
use Rattle.call_run.proofs.beside.run_both.Goals as goal

pub join-besides-requires-after_bounds : goal.join-besides-requires-after_bounds
join-besides-requires-after_bounds g c κs within = let z = c.args.tables.now.socks.rule.table.shared.table_id in let p = c.args.tables.now.socks.rule.plan in let y = c.args.tables.now.ids.table.shared.table_id in let t = c.type_bounds in let r = c.requires in (
  (
    (record { shared = t.sync-R.shared }, all_ready z p y 0 c.args.opens.now c.args.links.besides.items r.seated r.opens, r.calls),
    (
      record { owned = t.send-O.owned; leaving = λ k. unseen_quiet (k (of_param 0)) },
      record { owned = t.send-I.owned; leaving = λ k. unseen_quiet (k (of_param 1)) },
      record { owned = t.send-P.owned; leaving = λ k. unseen_quiet (k (of_param 2)) },
      record { shared = t.sync-R.shared },
    ),
  ),
  (
    (record { shared = t.sync-R.shared }, r.crew, r.opens),
    (
      record { owned = t.send-O.owned; leaving = λ k. unseen_quiet (k (of_param 0)) },
      record { owned = t.send-G.owned; leaving = λ k. unseen_quiet (k (of_param 1)) },
      record { shared = t.sync-G.shared },
      record { shared = t.sync-R.shared },
    ),
  ),
)

pub part_all-requires : goal.part_all-requires
part_all-requires g c = let z = c.args.tables.now.socks.rule.table.shared.table_id in let p = c.args.tables.now.socks.rule.plan in let y = c.args.tables.now.ids.table.shared.table_id in
    subst (λ n. IsLinksRoom n c.args.links.left) (seated_long z p y 0 c.args.opens.now c.args.links.besides.items c.requires.seated ∙ sym c.join-besides.ensures.first.count) c.requires.room

pub returns-clause-read : goal.returns-clause-read
returns-clause-read g c = let z = c.args.tables.now.socks.rule.table.shared.table_id in let p = c.args.tables.now.socks.rule.plan in let y = c.args.tables.now.ids.table.shared.table_id in let q = c.args.tables.now.ids.plan in
    links_ran z p y g.I.In.state g.P.Peer.state q c.args.calls.now c.args.opens.now c.args.links.besides.items c.join-besides.result.0.items c.part_all.new.left c.requires.seated c.join-besides.ensures.first c.part_all.ensures
