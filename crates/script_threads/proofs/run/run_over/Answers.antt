use Rattle.std.proofs.Common.{◌≡◌, refl, map, length, ap, sym, subst, ◌∙◌, arith}
use Rattle.std.proofs.lemmas.List.{length-map}
use Rattle.call_run.specs.sock_open.specs.SocketTableOpening.{AreFresh}
use Rattle.sock_words.specs.declared.plain.Plan.{Plan}
use Rattle.script_links.proofs.LinkNumbering.{numbered_of}
use Rattle.script_parts.specs.HalvesApartAndTogether.{rest_of}
use Rattle.script_parts.proofs.SortNumberBounds.{few_calls}
use Rattle.script_parts.proofs.LinksUntilParting.{end_at, are_fresh, closed_back, give_numbered, give_as_many}
use Rattle.script_parts.proofs.ReportOfRun.{joined_outs, if_moved, on_ok}
use Rattle.call_run.specs.Threads.{ids_of}
use Rattle.script_threads.specs.GaveWhatWasOffered.{GaveOffers}
use Rattle.script_threads.specs.ServedScriptTold.{seated_plan}
use Rattle.script_threads.proofs.JoinedLinkReaders.{as_many, joined_inns, had_none}
use Rattle.script_threads.proofs.LeftByScriptThreads.{left_is, run_is}
use Rattle.script_threads.proofs.LinksOpenedAndCompared.{AreKept, run_kept, kept_ends, all_gave}
use Rattle.script_threads.proofs.TablesWithReaderSeats as seated
use Rattle.script_threads.proofs.run.run_over.Goals as goal

-- ## What is asked for

pub seated-plan-requires : goal.seated-plan-requires
seated-plan-requires g c = seated.few_seats c.requires.script.0 c.args.script.now c.requires.script.1 c.in-Ok.ready.plan c.len-count.result c.in-Ok.ensures.plan (c.len-count.ensures ∙ (c.args.ends.ok.0 ∙ c.requires.all))

pub give_back-requires-clause-numbered : goal.give_back-requires-clause-numbered
give_back-requires-clause-numbered g c κs within = numbered_of 0 _ c.requires.untouched

pub run_beside-requires-clause-plan : goal.run_beside-requires-clause-plan
run_beside-requires-clause-plan g c κs within = seated.begins c.requires.script.0 c.args.script.now c.requires.script.1 c.seated-plan.result (seated.seated_is c.args.script.now c.in-Ok.ready.plan c.seated-plan.result c.len-count.result c.in-Ok.ensures.plan (c.len-count.ensures ∙ (c.args.ends.ok.0 ∙ c.requires.all)) c.seated-plan.ensures)

pub run_beside-requires-clause-slots : goal.run_beside-requires-clause-slots
run_beside-requires-clause-slots g c κs within = few_calls c.requires.script.0 c.args.script.now c.requires.script.1 c.in-Ok.ready.slots c.in-Ok.ensures.slots

pub run_beside-requires-clause-operations : goal.run_beside-requires-clause-operations
run_beside-requires-clause-operations g c κs within = seated.numbers c.requires.script.0 c.args.script.now c.requires.script.1 c.seated-plan.result (seated.seated_is c.args.script.now c.in-Ok.ready.plan c.seated-plan.result c.len-count.result c.in-Ok.ensures.plan (c.len-count.ensures ∙ (c.args.ends.ok.0 ∙ c.requires.all)) c.seated-plan.ensures)

pub run_beside-requires-clause-outs : goal.run_beside-requires-clause-outs
run_beside-requires-clause-outs g c κs within =
    subst (λ q. AreFresh g.L.O.Out.state q c.part.new.halves.outs.items) (sym (seated.seated_is c.args.script.now c.in-Ok.ready.plan c.seated-plan.result c.len-count.result c.in-Ok.ensures.plan (c.len-count.ensures ∙ (c.args.ends.ok.0 ∙ c.requires.all)) c.seated-plan.ensures))
    (subst (AreFresh g.L.O.Out.state (seated_plan c.args.script.now)) (sym c.part.ensures.outs) (are_fresh g.L.O.Out.state g.L.I.In.state (seated_plan c.args.script.now) c.args.ends.items c.requires.untouched c.requires.unfinished c.requires.all))

pub run_beside-requires-clause-may : goal.run_beside-requires-clause-may
run_beside-requires-clause-may g c κs within =
    seated.fits c.requires.script.0 c.args.script.now c.requires.script.1 c.seated-plan.result (seated.seated_is c.args.script.now c.in-Ok.ready.plan c.seated-plan.result c.len-count.result c.in-Ok.ensures.plan (c.len-count.ensures ∙ (c.args.ends.ok.0 ∙ c.requires.all)) c.seated-plan.ensures) c.in-Ok.ready.slots c.in-Ok.ready.setup.items (map (λ v. v.items) c.in-Ok.ready.clients.items) c.in-Ok.ensures.tasks

pub run_beside-requires-clause-seats : goal.run_beside-requires-clause-seats
run_beside-requires-clause-seats g c κs within =
    let n = length-map c.in-Ok.ready.clients.items (λ v. v.items) in
    let a = seated.all_seats c.args.script.now c.seated-plan.result (seated.seated_is c.args.script.now c.in-Ok.ready.plan c.seated-plan.result c.len-count.result c.in-Ok.ensures.plan (c.len-count.ensures ∙ (c.args.ends.ok.0 ∙ c.requires.all)) c.seated-plan.ensures) c.in-Ok.ready.setup.items (map (λ v. v.items) c.in-Ok.ready.clients.items) (length c.part.new.halves.rests.items) c.in-Ok.ensures.tasks ((ap length c.part.ensures.rests ∙ length-map c.args.ends.items rest_of) ∙ c.requires.all) in omega (arith, n, a)

pub run_beside-requires-clause-opens : goal.run_beside-requires-clause-opens
run_beside-requires-clause-opens g c κs within = seated.opens_within c.args.script.now c.seated-plan.result (seated.seated_is c.args.script.now c.in-Ok.ready.plan c.seated-plan.result c.len-count.result c.in-Ok.ensures.plan (c.len-count.ensures ∙ (c.args.ends.ok.0 ∙ c.requires.all)) c.seated-plan.ensures) c.deref.result.now (c.deref.ensures.value ∙ c.in-Ok.ensures.opens_are)

pub run_beside-requires-clause-links : goal.run_beside-requires-clause-links
run_beside-requires-clause-links g c κs within = seated.all_opens c.args.script.now c.seated-plan.result (seated.seated_is c.args.script.now c.in-Ok.ready.plan c.seated-plan.result c.len-count.result c.in-Ok.ensures.plan (c.len-count.ensures ∙ (c.args.ends.ok.0 ∙ c.requires.all)) c.seated-plan.ensures) c.deref.result.now (length c.part.new.halves.rests.items) (c.deref.ensures.value ∙ c.in-Ok.ensures.opens_are) ((ap length c.part.ensures.rests ∙ length-map c.args.ends.items rest_of) ∙ c.requires.all)

pub run_beside-requires-clause-calls : goal.run_beside-requires-clause-calls
run_beside-requires-clause-calls g c κs within = seated.calls_within c.args.script.now c.seated-plan.result (seated.seated_is c.args.script.now c.in-Ok.ready.plan c.seated-plan.result c.len-count.result c.in-Ok.ensures.plan (c.len-count.ensures ∙ (c.args.ends.ok.0 ∙ c.requires.all)) c.seated-plan.ensures) c.deref-2.result.now (c.deref-2.ensures.value ∙ c.in-Ok.ensures.calls_are)

-- ## What the run left

pub join-requires-clause-as_many : goal.join-requires-clause-as_many
join-requires-clause-as_many g c =
    let count = c.in-Ok-run_beside.ensures.ran.1.closed.count in let links = seated.all_links c.args.script.now c.seated-plan.result (seated.seated_is c.args.script.now c.in-Ok.ready.plan c.seated-plan.result c.len-count.result c.in-Ok.ensures.plan (c.len-count.ensures ∙ (c.args.ends.ok.0 ∙ c.requires.all)) c.seated-plan.ensures) _ refl in let many = ((sym (as_many (λ x. x.behind) (λ x. g.L.I.In.state x.inn) c.in-Ok-run_beside.ensures.ran.0 c.in-Ok-run_beside.field-0.rests.items c.in-Ok-run_beside.ensures.ran.3.behind) ∙ (as_many (λ x. x.before) (λ x. g.L.I.In.state x.inn) c.in-Ok-run_beside.ensures.ran.0 c.part.new.halves.rests.items c.in-Ok-run_beside.ensures.ran.3.before ∙ (ap length c.part.ensures.rests ∙ length-map c.args.ends.items rest_of))) ∙ c.requires.all) in omega (arith, count, links, many)

pub finish-text-requires-clause-calls : goal.finish-text-requires-clause-calls
finish-text-requires-clause-calls g c = seated.call_ids c.args.script.now c.in-Ok-run_beside.field-0.ran.ids.plan (seated.ids_are c.args.script.now c.seated-plan.result (seated.seated_is c.args.script.now c.in-Ok.ready.plan c.seated-plan.result c.len-count.result c.in-Ok.ensures.plan (c.len-count.ensures ∙ (c.args.ends.ok.0 ∙ c.requires.all)) c.seated-plan.ensures) c.in-Ok-run_beside.field-0.ran.ids.plan c.in-Ok.ready.slots c.in-Ok-run_beside.ensures.ids.0 c.in-Ok.ensures.slots) c.deref-in-Ok-run_beside.result.now (c.deref-in-Ok-run_beside.ensures.value ∙ c.in-Ok.ensures.calls_are)

pub finish-text-requires-clause-ran : goal.finish-text-requires-clause-ran
finish-text-requires-clause-ran g c = (
    let r = c.in-Ok-run_beside.field-0 in let ran = c.in-Ok-run_beside.ensures.ran in
    left_is g.L.O.Out g.L.O.Out.state c.args.script.now c.seated-plan.result c.in-Ok.ready.slots c.in-Ok.ready.setup.items (map (λ v. v.items) c.in-Ok.ready.clients.items) c.deref.result.now c.deref-2.result.now
    (map (λ v. v.items) r.ran.told.items) (map (λ v. v.items) r.ran.ended.items) (map (λ v. v.items) r.told.items) (map (λ v. v.items) r.early.items) r.ran.places.items r.ran.vrefs.items r.ran.outs.items r.ran.seats.items r.ids.items ran.0
    (seated.seated_is c.args.script.now c.in-Ok.ready.plan c.seated-plan.result c.len-count.result c.in-Ok.ensures.plan (c.len-count.ensures ∙ (c.args.ends.ok.0 ∙ c.requires.all)) c.seated-plan.ensures) c.in-Ok.ensures.slots (c.deref.ensures.value ∙ c.in-Ok.ensures.opens_are) (c.deref-2.ensures.value ∙ c.in-Ok.ensures.calls_are) c.in-Ok.ensures.tasks ran.1 ran.2 ran.3.ids_are ran.3.told_is ran.3.early_is
    )

pub meet_and_give_back-requires-clause-numbered : goal.meet_and_give_back-requires-clause-numbered
meet_and_give_back-requires-clause-numbered g c κs within = give_numbered g.L.O.Out.state g.L.I.In.state c.seated-plan.result _ _ c.join.new.back.items (closed_back g.L.O.Out.state c.seated-plan.result _ _ _ _ c.in-Ok-run_beside.ensures.ran.1.closed) c.join.ensures

pub meet_and_give_back-requires-clause-opened : goal.meet_and_give_back-requires-clause-opened
meet_and_give_back-requires-clause-opened g c κs within = c.requires.opened ∙ sym ((give_as_many g.L.O.Out.state g.L.I.In.state c.seated-plan.result _ _ c.join.new.back.items (closed_back g.L.O.Out.state c.seated-plan.result _ _ _ _ c.in-Ok-run_beside.ensures.ran.1.closed) c.join.ensures c.args.ends.items (seated.all_links c.args.script.now c.seated-plan.result (seated.seated_is c.args.script.now c.in-Ok.ready.plan c.seated-plan.result c.len-count.result c.in-Ok.ensures.plan (c.len-count.ensures ∙ (c.args.ends.ok.0 ∙ c.requires.all)) c.seated-plan.ensures) (length c.args.ends.items) c.requires.all) ((sym (as_many (λ x. x.behind) (λ x. g.L.I.In.state x.inn) c.in-Ok-run_beside.ensures.ran.0 c.in-Ok-run_beside.field-0.rests.items c.in-Ok-run_beside.ensures.ran.3.behind) ∙ (as_many (λ x. x.before) (λ x. g.L.I.In.state x.inn) c.in-Ok-run_beside.ensures.ran.0 c.part.new.halves.rests.items c.in-Ok-run_beside.ensures.ran.3.before ∙ (ap length c.part.ensures.rests ∙ length-map c.args.ends.items rest_of))))))

pub meet_and_give_back-requires-clause-few : goal.meet_and_give_back-requires-clause-few
meet_and_give_back-requires-clause-few g c κs within = let few = c.requires.few in let long = (give_as_many g.L.O.Out.state g.L.I.In.state c.seated-plan.result _ _ c.join.new.back.items (closed_back g.L.O.Out.state c.seated-plan.result _ _ _ _ c.in-Ok-run_beside.ensures.ran.1.closed) c.join.ensures c.args.ends.items (seated.all_links c.args.script.now c.seated-plan.result (seated.seated_is c.args.script.now c.in-Ok.ready.plan c.seated-plan.result c.len-count.result c.in-Ok.ensures.plan (c.len-count.ensures ∙ (c.args.ends.ok.0 ∙ c.requires.all)) c.seated-plan.ensures) (length c.args.ends.items) c.requires.all) ((sym (as_many (λ x. x.behind) (λ x. g.L.I.In.state x.inn) c.in-Ok-run_beside.ensures.ran.0 c.in-Ok-run_beside.field-0.rests.items c.in-Ok-run_beside.ensures.ran.3.behind) ∙ (as_many (λ x. x.before) (λ x. g.L.I.In.state x.inn) c.in-Ok-run_beside.ensures.ran.0 c.part.new.halves.rests.items c.in-Ok-run_beside.ensures.ran.3.before ∙ (ap length c.part.ensures.rests ∙ length-map c.args.ends.items rest_of))))) in omega (arith, few, long)

pub returns-in-Ok-run_beside-clause-ran : goal.returns-in-Ok-run_beside-clause-ran
returns-in-Ok-run_beside-clause-ran g c =
    let r = c.in-Ok-run_beside.field-0 in let ran = c.in-Ok-run_beside.ensures.ran in
    let count = ran.1.closed.count in let links = seated.all_links c.args.script.now c.seated-plan.result (seated.seated_is c.args.script.now c.in-Ok.ready.plan c.seated-plan.result c.len-count.result c.in-Ok.ensures.plan (c.len-count.ensures ∙ (c.args.ends.ok.0 ∙ c.requires.all)) c.seated-plan.ensures) _ refl in let many = ((sym (as_many (λ x. x.behind) (λ x. g.L.I.In.state x.inn) c.in-Ok-run_beside.ensures.ran.0 c.in-Ok-run_beside.field-0.rests.items c.in-Ok-run_beside.ensures.ran.3.behind) ∙ (as_many (λ x. x.before) (λ x. g.L.I.In.state x.inn) c.in-Ok-run_beside.ensures.ran.0 c.part.new.halves.rests.items c.in-Ok-run_beside.ensures.ran.3.before ∙ (ap length c.part.ensures.rests ∙ length-map c.args.ends.items rest_of))) ∙ c.requires.all) in let both : length r.ran.outs.items ≡ length r.rests.items = omega (arith, count, links, many) in
    let left = (
    let r = c.in-Ok-run_beside.field-0 in let ran = c.in-Ok-run_beside.ensures.ran in
    left_is g.L.O.Out g.L.O.Out.state c.args.script.now c.seated-plan.result c.in-Ok.ready.slots c.in-Ok.ready.setup.items (map (λ v. v.items) c.in-Ok.ready.clients.items) c.deref.result.now c.deref-2.result.now
    (map (λ v. v.items) r.ran.told.items) (map (λ v. v.items) r.ran.ended.items) (map (λ v. v.items) r.told.items) (map (λ v. v.items) r.early.items) r.ran.places.items r.ran.vrefs.items r.ran.outs.items r.ran.seats.items r.ids.items ran.0
    (seated.seated_is c.args.script.now c.in-Ok.ready.plan c.seated-plan.result c.len-count.result c.in-Ok.ensures.plan (c.len-count.ensures ∙ (c.args.ends.ok.0 ∙ c.requires.all)) c.seated-plan.ensures) c.in-Ok.ensures.slots (c.deref.ensures.value ∙ c.in-Ok.ensures.opens_are) (c.deref-2.ensures.value ∙ c.in-Ok.ensures.calls_are) c.in-Ok.ensures.tasks ran.1 ran.2 ran.3.ids_are ran.3.told_is ran.3.early_is
    ) in
    if_moved _ _ c.or_no_memory.result c.finish-text.result c.or_no_memory.ensures.ok c.finish-text.ensures (λ t q.
    run_is g.row.L-P.Denot g.L.O.Out g.L.O.Out.state g.L.I.In.state c.args.script.now t.items _ (map (λ v. v.items) r.ran.told.items) (map (λ v. v.items) r.ran.ended.items) (map (λ v. v.items) r.told.items) (map (λ v. v.items) r.early.items) r.ran.places.items r.ran.seats.items r.ids.items
    left c.join.new.back.items c.deref-in-Ok-run_beside-2.result.now q.0 c.seated-plan.result.operations (ap (λ (x : Plan). x.operations) (seated.seated_is c.args.script.now c.in-Ok.ready.plan c.seated-plan.result c.len-count.result c.in-Ok.ensures.plan (c.len-count.ensures ∙ (c.args.ends.ok.0 ∙ c.requires.all)) c.seated-plan.ensures)) c.deref-in-Ok-run_beside-2.ensures.value
    (ap (map (λ e. e.out)) c.join.ensures ∙ joined_outs g.L.O.Out.state g.L.I.In.state _ _ both)
    (ran.3.behind ∙ sym (ap (map (λ e. g.L.I.In.state e.inn)) c.join.ensures ∙ joined_inns g.L.O.Out.state g.L.I.In.state _ _ both))
    (had_none g.L.O.Out.state g.L.I.In.state c.args.ends.items c.part.new.halves.rests.items ran.0 c.requires.untouched c.part.ensures.rests ran.3.before)
    q.1 c.meet_and_give_back.ensures.back q.2)

pub returns-in-Ok-run_beside-clause-back : goal.returns-in-Ok-run_beside-clause-back
returns-in-Ok-run_beside-clause-back g c = ap length c.meet_and_give_back.ensures.back ∙ (length-map _ (end_at g.L.O.Out.state g.L.I.In.state) ∙ (give_as_many g.L.O.Out.state g.L.I.In.state c.seated-plan.result _ _ c.join.new.back.items (closed_back g.L.O.Out.state c.seated-plan.result _ _ _ _ c.in-Ok-run_beside.ensures.ran.1.closed) c.join.ensures c.args.ends.items (seated.all_links c.args.script.now c.seated-plan.result (seated.seated_is c.args.script.now c.in-Ok.ready.plan c.seated-plan.result c.len-count.result c.in-Ok.ensures.plan (c.len-count.ensures ∙ (c.args.ends.ok.0 ∙ c.requires.all)) c.seated-plan.ensures) (length c.args.ends.items) c.requires.all) ((sym (as_many (λ x. x.behind) (λ x. g.L.I.In.state x.inn) c.in-Ok-run_beside.ensures.ran.0 c.in-Ok-run_beside.field-0.rests.items c.in-Ok-run_beside.ensures.ran.3.behind) ∙ (as_many (λ x. x.before) (λ x. g.L.I.In.state x.inn) c.in-Ok-run_beside.ensures.ran.0 c.part.new.halves.rests.items c.in-Ok-run_beside.ensures.ran.3.before ∙ (ap length c.part.ensures.rests ∙ length-map c.args.ends.items rest_of))))))

-- ## Their ends are compared

pub meet_and_give_back-requires-clause-ends : goal.meet_and_give_back-requires-clause-ends
meet_and_give_back-requires-clause-ends g c κs within =
    let r = c.in-Ok-run_beside.field-0 in let ran = c.in-Ok-run_beside.ensures.ran in
    let kept = run_kept g.L.Linker.tells_in g.L.O.Out.state g.L.P.Peer.state g.L.I.In.state c.seated-plan.result (ids_of c.seated-plan.result c.in-Ok.ready.slots) c.deref-2.result.now (g.L.Linker.state c.args.links.now).asked c.args.ends.items c.part.new.halves.outs.items r.ran.outs.items c.part.new.halves.rests.items r.rests.items c.deref.result.now ran.0
    c.requires.ends c.in-Ok-run_beside.ensures.ways c.part.ensures.outs c.part.ensures.rests ran.2 ran.3.before ran.3.behind ran.3.served in
    kept_ends g.L.Linker.tells_in g.L.O.Out.state g.L.P.Peer.state g.L.I.In.state (g.L.Linker.state c.args.links.now).asked c.join.new.back.items (subst (AreKept g.L.Linker.tells_in g.L.O.Out.state g.L.P.Peer.state g.L.I.In.state (g.L.Linker.state c.args.links.now).asked) (sym c.join.ensures) kept)

pub returns-in-Ok-run_beside-clause-gave : goal.returns-in-Ok-run_beside-clause-gave
returns-in-Ok-run_beside-clause-gave g c =
    let r = c.in-Ok-run_beside.field-0 in let ran = c.in-Ok-run_beside.ensures.ran in
    let kept = run_kept g.L.Linker.tells_in g.L.O.Out.state g.L.P.Peer.state g.L.I.In.state c.seated-plan.result (ids_of c.seated-plan.result c.in-Ok.ready.slots) c.deref-2.result.now (g.L.Linker.state c.args.links.now).asked c.args.ends.items c.part.new.halves.outs.items r.ran.outs.items c.part.new.halves.rests.items r.rests.items c.deref.result.now ran.0
    c.requires.ends c.in-Ok-run_beside.ensures.ways c.part.ensures.outs c.part.ensures.rests ran.2 ran.3.before ran.3.behind ran.3.served in
    let met = c.meet_and_give_back.ensures.met in
    on_ok c.or_no_memory.result _ (subst (GaveOffers g.L.Linker.tells_in (g.L.Linker.state c.args.links.now).asked) (sym met.3)
    (all_gave g.L.Linker.tells_in g.L.O.Out.state g.L.P.Peer.state g.L.I.In.state (g.L.Linker.state c.args.links.now).asked c.join.new.back.items met.0 (subst (AreKept g.L.Linker.tells_in g.L.O.Out.state g.L.P.Peer.state g.L.I.In.state (g.L.Linker.state c.args.links.now).asked) (sym c.join.ensures) kept) met.1 met.2))

-- ## Where memory was wanting

pub give_back-requires-in-Err-clause-numbered : goal.give_back-requires-in-Err-clause-numbered
give_back-requires-in-Err-clause-numbered g c κs within = give_numbered g.L.O.Out.state g.L.I.In.state c.seated-plan.result _ _ c.join-in-Err.new.back.items c.in-Err.ensures.back.0 c.join-in-Err.ensures

pub give_back-requires-in-Err-clause-opened : goal.give_back-requires-in-Err-clause-opened
give_back-requires-in-Err-clause-opened g c κs within = c.requires.opened ∙ sym ((give_as_many g.L.O.Out.state g.L.I.In.state c.seated-plan.result _ _ c.join-in-Err.new.back.items c.in-Err.ensures.back.0 c.join-in-Err.ensures c.args.ends.items (seated.all_links c.args.script.now c.seated-plan.result (seated.seated_is c.args.script.now c.in-Ok.ready.plan c.seated-plan.result c.len-count.result c.in-Ok.ensures.plan (c.len-count.ensures ∙ (c.args.ends.ok.0 ∙ c.requires.all)) c.seated-plan.ensures) (length c.args.ends.items) c.requires.all) (c.in-Err.ensures.back.1 ∙ (ap length c.part.ensures.rests ∙ length-map c.args.ends.items rest_of))))

pub give_back-requires-in-Err-clause-few : goal.give_back-requires-in-Err-clause-few
give_back-requires-in-Err-clause-few g c κs within = let few = c.requires.few in let long = (give_as_many g.L.O.Out.state g.L.I.In.state c.seated-plan.result _ _ c.join-in-Err.new.back.items c.in-Err.ensures.back.0 c.join-in-Err.ensures c.args.ends.items (seated.all_links c.args.script.now c.seated-plan.result (seated.seated_is c.args.script.now c.in-Ok.ready.plan c.seated-plan.result c.len-count.result c.in-Ok.ensures.plan (c.len-count.ensures ∙ (c.args.ends.ok.0 ∙ c.requires.all)) c.seated-plan.ensures) (length c.args.ends.items) c.requires.all) (c.in-Err.ensures.back.1 ∙ (ap length c.part.ensures.rests ∙ length-map c.args.ends.items rest_of))) in omega (arith, few, long)

pub returns-clause-back : goal.returns-clause-back
returns-clause-back g c = ap length c.give_back-in-Err.ensures.back ∙ (length-map c.join-in-Err.new.back.items (end_at g.L.O.Out.state g.L.I.In.state) ∙ (give_as_many g.L.O.Out.state g.L.I.In.state c.seated-plan.result _ _ c.join-in-Err.new.back.items c.in-Err.ensures.back.0 c.join-in-Err.ensures c.args.ends.items (seated.all_links c.args.script.now c.seated-plan.result (seated.seated_is c.args.script.now c.in-Ok.ready.plan c.seated-plan.result c.len-count.result c.in-Ok.ensures.plan (c.len-count.ensures ∙ (c.args.ends.ok.0 ∙ c.requires.all)) c.seated-plan.ensures) (length c.args.ends.items) c.requires.all) (c.in-Err.ensures.back.1 ∙ (ap length c.part.ensures.rests ∙ length-map c.args.ends.items rest_of))))
