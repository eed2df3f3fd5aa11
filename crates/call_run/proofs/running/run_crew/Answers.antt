use Rattle.std.proofs.Common.{ℕ, ◌<◌, [], length, get_or, sym, ap, ◌∙◌, subst, arith}
use Rattle.std.specs.Prelude.{All}
use Rattle.std.proofs.lemmas.List.Elements.{All-nil}
use Rattle.call_run.specs.declared.worker.Worker.{Worker}
use Rattle.call_run.specs.Threads.{opens_of, opened_names}
use Rattle.call_run.specs.Working.{IsReady, HasWorked}
use Rattle.call_run.proofs.Weaving.{one_ready, all_ready}
use Rattle.call_run.proofs.Manning.{whole_lent, fit_names}
use Rattle.call_run.proofs.WholeRunOverTables.{all_left, crew_ran}
use Rattle.call_run.proofs.running.run_crew.Goals as goal

pub work-requires-after_bounds : goal.work-requires-after_bounds
work-requires-after_bounds g c κs within = let p = c.args.tables.now.socks.rule.plan in one_ready c.args.tables.now.socks.rule.table.shared.table_id p c.args.tables.now.ids.table.shared.table_id c.args.tables.now.ids.plan [] 0 0 c.args.crew.main c.requires.crew.main_hired c.requires.crew.may.setup_may (All-nil (λ (k : ℕ). k < p.names))

pub run_workers-requires : goal.run_workers-requires
run_workers-requires g c = let z = c.args.tables.now.socks.rule.table.shared.table_id in let p = c.args.tables.now.socks.rule.plan in let y = c.args.tables.now.ids.table.shared.table_id in let q = c.args.tables.now.ids.plan in let setup = c.args.crew.main.tasks.items in let names = c.as_slice-3.result.now in let r = c.requires.crew in
    let fit = fit_names p q c.as_slice.result.now c.as_slice-2.result.now setup names (opens_of setup) (c.as_slice-3.ensures.value ∙ c.opened_names.ensures) (c.as_slice-2.ensures.value ∙ r.kit.openings_are) r.may.setup_may.may in (
      c.type_bounds.send-O,
      (
        c.type_bounds.send-G,
        (
          c.type_bounds.sync-G,
          (c.type_bounds.sync-R, subst (All (IsReady z p y q names)) (sym c.as_mut_slice.ensures.value) (all_ready z p y q names 1 (opens_of setup) c.args.crew.workers.items r.hired r.may.clients_may fit)),
        ),
      ),
    )

pub end_sockets-seats-requires-clause-seats : goal.end_sockets-seats-requires-clause-seats
end_sockets-seats-requires-clause-seats g c = let z = c.args.tables.now.socks.rule.table.shared.table_id in let p = c.args.tables.now.socks.rule.plan in let y = c.args.tables.now.ids.table.shared.table_id in let q = c.args.tables.now.ids.plan in let names = c.as_slice-3.result.now in let was = c.args.crew.workers.items in let m = c.work.new.self in let ys = c.run_workers.new.workers in
    let len = c.run_workers.ensures.length ∙ ap length c.as_mut_slice.ensures.value in
    let left = all_left g.O.Out.state z p y q c.args.crew m names ys c.hand_in.new.left c.hand_in_all.new.left c.requires.crew c.work.ensures
    (c.as_slice-3.ensures.value ∙ (c.opened_names.ensures ∙ (λ i. opened_names (c.as_slice.ensures.value i) ((c.as_slice-2.ensures.value ∙ c.requires.crew.kit.openings_are) i))))
    len
    (subst (λ l. (i : ℕ) (d : Worker g.row.O.Denot g.O.Out) → i < length l → HasWorked g.O.Out.state z p y q names (get_or l i d) (get_or ys i d)) c.as_mut_slice.ensures.value c.run_workers.ensures.each)
    _ c.hand_in.ensures c.hand_in_all.ensures
    (whole_lent ys was c.args.crew.workers.len (omega (arith, c.args.crew.workers.ok.0)) len) in let all = left.all in (left.done, omega (arith, all))

pub returns : goal.returns
returns g c = let z = c.args.tables.now.socks.rule.table.shared.table_id in let p = c.args.tables.now.socks.rule.plan in let y = c.args.tables.now.ids.table.shared.table_id in let q = c.args.tables.now.ids.plan in let names = c.as_slice-3.result.now in let was = c.args.crew.workers.items in let m = c.work.new.self in let ys = c.run_workers.new.workers in
    let len = c.run_workers.ensures.length ∙ ap length c.as_mut_slice.ensures.value in
    crew_ran g.O.Out.state z p y q c.args.crew m names ys c.hand_in.new.left c.hand_in_all.new.left c.requires.crew c.work.ensures
    (c.as_slice-3.ensures.value ∙ (c.opened_names.ensures ∙ (λ i. opened_names (c.as_slice.ensures.value i) ((c.as_slice-2.ensures.value ∙ c.requires.crew.kit.openings_are) i))))
    len
    (subst (λ l. (i : ℕ) (d : Worker g.row.O.Denot g.O.Out) → i < length l → HasWorked g.O.Out.state z p y q names (get_or l i d) (get_or ys i d)) c.as_mut_slice.ensures.value c.run_workers.ensures.each)
    _ c.hand_in.ensures c.hand_in_all.ensures
    (whole_lent ys was c.args.crew.workers.len (omega (arith, c.args.crew.workers.ok.0)) len)
    c.args.opens.now c.end_sockets-seats.result c.end_sockets-seats.ensures.left c.end_sockets-seats.ensures.ended
