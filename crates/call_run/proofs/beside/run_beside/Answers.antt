use Rattle.std.proofs.Common.{ℕ, ◌<◌, length, refl, ap, sym, ◌∙◌, subst, arith}
use Rattle.std.specs.Prelude.{All}
use Rattle.std.proofs.lemmas.List.{length-map}
use Rattle.call_run.specs.Threads.{ids_of}
use Rattle.call_run.specs.CrewOfRun.{AreBack}
use Rattle.call_run.proofs.WholeRunOverTables.{fresh_back, as_long}
use Rattle.call_run.proofs.Together.{left_both, ids_beside, beside_ran}
use Rattle.call_run.proofs.beside.run_beside.Goals as goal

pub returns-in_default-clause-back : goal.returns-in_default-clause-back
returns-in_default-clause-back g c = (fresh_back g.O.Out.state c.args.plan.now c.args.outs.items c.requires.outs, refl)

pub returns-in-Err-clause-back : goal.returns-in-Err-clause-back
returns-in-Err-clause-back g c = (subst (AreBack g.O.Out.state c.args.plan.now) (sym c.in-Err.ensures.back) (fresh_back g.O.Out.state c.args.plan.now c.args.outs.items c.requires.outs), refl)

pub crew_of-crew-requires-clause-few : goal.crew_of-crew-requires-clause-few
crew_of-crew-requires-clause-few g c = let l = as_long _ _ _ _ c.in-Ok.ensures.cast.tasks in let k = c.requires.seats in let m = c.requires.plan.few_seats in omega (arith, l, k, m)

pub run_both-left-requires-clause-opens : goal.run_both-left-requires-clause-opens
run_both-left-requires-clause-opens g c κs within = subst (λ p. All (λ (o : ℕ). o < p.operations) c.args.opens.now) (sym c.in-Ok-new_table.ensures.plan) c.requires.opens

pub run_both-left-requires-clause-calls : goal.run_both-left-requires-clause-calls
run_both-left-requires-clause-calls g c κs within k d lt = let e = ap (λ q. q.operations) c.in-Ok.ensures.plan in let a = c.requires.calls k d lt in omega (arith, e, a)

pub end_both-requires-clause-done : goal.end_both-requires-clause-done
end_both-requires-clause-done g c = let t = c.in-Ok-new_table.field-0.table.rule in let both = c.run_both-left.ensures in let l = ap length (c.crew_of-crew.ensures.tasks ∙ c.in-Ok.ensures.cast.tasks) ∙ length-map c.args.clients.items (λ v. v.items) in let k = c.requires.seats in let n = c.requires.links in let e = ap (λ p. p.seats) c.in-Ok-new_table.ensures.plan in
    left_both t.table.shared.table_id t.plan _ _ t.plan.seats _ _ both.read.left both.ran.left (omega (arith, l, k, n, e))

pub returns-in-Ok-new_table-clause-ran : goal.returns-in-Ok-new_table-clause-ran
returns-in-Ok-new_table-clause-ran g c = let t = c.in-Ok-new_table.field-0.table.rule in let both = c.run_both-left.ensures in let ids = c.in-Ok.stage.ids in let made = c.in-Ok.ensures in let crew = c.crew_of-crew.ensures in
    beside_ran g.O.Out.state t.plan _ _ ids g.I.In.state g.P.Peer.state t.table.shared.table_id c.args.plan.now ids.table.shared.table_id ids.plan c.args.slots _ _ _ _ c.args.opens.now c.args.calls.now _ _
    c.in-Ok-new_table.ensures.plan made.plan (crew.main_is ∙ made.cast.main_is) (crew.tasks ∙ made.cast.tasks) c.seat_links.ensures.rests both.ran both.read c.end_both.result c.end_both.ensures.ran

pub returns-in-Ok-new_table-clause-ids : goal.returns-in-Ok-new_table-clause-ids
returns-in-Ok-new_table-clause-ids g c = let t = c.in-Ok-new_table.field-0.table.rule in let both = c.run_both-left.ensures in let l = ap length (c.crew_of-crew.ensures.tasks ∙ c.in-Ok.ensures.cast.tasks) ∙ length-map c.args.clients.items (λ v. v.items) in let k = c.requires.seats in let n = c.requires.links in
    ids_beside g.O.Out.state t.plan _ _ c.in-Ok.stage.ids (ids_of c.args.plan.now c.args.slots) _ _ c.end_both.result c.in-Ok.ensures.plan both.ran.ids both.read.ids both.ran.all_ids both.read.all_ids (omega (arith, l, k, n)) c.end_both.ensures.ran
