use Rattle.std.proofs.Common.{ℕ, length, sym, ap, ◌∙◌, subst, List}
use Rattle.std.proofs.lemmas.List.{length-map}
use Rattle.sock_open.specs.SocketTableOpening.{AreNewWords, AreNewHomes}
use Rattle.sock_table.specs.ClosedSocketTable.{AreLinks, OutsOf}
use Rattle.sock_open.proofs.NewTableWords.{is_new, halves_same, halves_links}
use Rattle.sock_open.proofs.opening.new_table.Goals as goal

pub open-requires-clause-new : goal.open-requires-clause-new
open-requires-clause-new g c = is_new c.args.plan.now c.of-ways.result.list _ _ (subst (λ (l : List ℕ). AreNewWords c.args.plan.now l) (sym c.as_slice.ensures.value) c.in-Ok.ensures.words)
    (subst (λ w. AreNewHomes c.args.plan.now w c.house.new.homes.items) (sym c.of-ways.ensures) c.house.ensures.new) c.requires.plan c.in-Ok.ensures.narrow

pub open-requires-clause-ways : goal.open-requires-clause-ways
open-requires-clause-ways g c = ap length c.of-ways.ensures ∙ (length-map c.args.outs.items (λ o. (g.O.Out.state o).way) ∙ c.requires.outs.count)

pub take_back-requires-clause-links : goal.take_back-requires-clause-links
take_back-requires-clause-links g c = subst (AreLinks c.args.plan.now.requests c.args.plan.now.links) (sym c.in-Err.ensures.err) (halves_links c.args.plan.now.requests c.args.plan.now.links c.args.outs.items c.house.new.homes.items c.house.ensures.outs)

pub returns-clause-back : goal.returns-clause-back
returns-clause-back g c = halves_same c.args.plan.now.requests c.args.plan.now.links c.args.outs.items c.take_back.new.back.items c.house.new.homes.items c.house.ensures.outs (subst (OutsOf c.args.plan.now.requests c.args.plan.now.links c.take_back.new.back.items) c.in-Err.ensures.err c.take_back.ensures.outs) c.requires.outs.count c.take_back.ensures.count
