use Rattle.std.proofs.Common.{map, sym, ◌∙◌, subst}
use Rattle.std.proofs.lemmas.Result.{IfOk-weaker}
use Rattle.sock_io.specs.LinkHalves.{end_of}
use Rattle.brpc_model.specs.PlaceWords.{ArePlaces}
use Rattle.script_threads.proofs.ListGathering.{flat_of}
use Rattle.script_threads.proofs.LeftByScriptThreads.{ended_is}
use Rattle.script_threads.proofs.PlacedOperations.{left_places, left_each}
use Rattle.script_threads.proofs.ThreadOutcomesSaid.{outcomes_are, each_of, reported_of}
use Rattle.script_threads.proofs.run.finish.Goals as goal

pub report-requires-clause-places : goal.report-requires-clause-places
report-requires-clause-places g c =
    let l = c.args.left in
    let rest = ended_is c.args.script.now l.ids.plan c.args.numbers.now c.append.new.self.items l.seats.items l.readers.items _ (map (λ own. own.items) l.kept.items) c.in_ok-last.last.items
    c.requires.plan.1 c.requires.plan.2 c.in_ok-append.ensures.items (sym (flat_of (λ own. own.items) l.kept.items)) c.in_ok-last.ensures in
    subst ArePlaces (sym c.deref-2.ensures.value)
    (left_places g.O.Out g.O.Out.state c.requires.script.0 c.args.script.now c.requires.script.1 (map (λ own. own.items) l.told.items) (map (λ own. own.items) l.ended.items) (map (λ own. own.items) l.read.items) (map (λ own. own.items) l.kept.items)
    l.places.items l.seats.items l.readers.items c.requires.ran c.in_ok-last.last.items rest)

pub report-requires-clause-each : goal.report-requires-clause-each
report-requires-clause-each g c =
    let l = c.args.left in
    let rest = ended_is c.args.script.now l.ids.plan c.args.numbers.now c.append.new.self.items l.seats.items l.readers.items _ (map (λ own. own.items) l.kept.items) c.in_ok-last.last.items
    c.requires.plan.1 c.requires.plan.2 c.in_ok-append.ensures.items (sym (flat_of (λ own. own.items) l.kept.items)) c.in_ok-last.ensures in
    let said = outcomes_are (λ own. own.items) c.args.operations (map (λ own. own.items) l.told.items) l.ended.items l.read.items c.append-2.new.self.items c.in_ok-last.last.items c.in_ok-said.said.items c.in_ok-append-2.ensures.items c.in_ok-said.ensures in
    let each = left_each g.O.Out g.O.Out.state c.requires.script.0 c.args.script.now c.requires.script.1 (map (λ own. own.items) l.told.items) (map (λ own. own.items) l.ended.items) (map (λ own. own.items) l.read.items) (map (λ own. own.items) l.kept.items)
    l.places.items l.seats.items l.readers.items c.requires.ran c.in_ok-last.last.items rest in
    each_of c.deref-2.result.now l.places.items c.deref.result.now c.args.operations _ (map (λ own. own.items) l.told.items) _ c.in_ok-last.last.items c.deref-2.ensures.value (c.deref.ensures.value ∙ said) c.requires.plan.0 each

pub returns : goal.returns
returns g c =
    let l = c.args.left in
    let rest = ended_is c.args.script.now l.ids.plan c.args.numbers.now c.append.new.self.items l.seats.items l.readers.items _ (map (λ own. own.items) l.kept.items) c.in_ok-last.last.items
    c.requires.plan.1 c.requires.plan.2 c.in_ok-append.ensures.items (sym (flat_of (λ own. own.items) l.kept.items)) c.in_ok-last.ensures in
    let said = outcomes_are (λ own. own.items) c.args.operations (map (λ own. own.items) l.told.items) l.ended.items l.read.items c.append-2.new.self.items c.in_ok-last.last.items c.in_ok-said.said.items c.in_ok-append-2.ensures.items c.in_ok-said.ensures in
    IfOk-weaker c.report.result _ _ (λ t q. (
      c.in_ok-last.last.items,
      rest,
      reported_of c.args.script.now t.items c.deref.result.now _ c.deref-2.result.now l.places.items (map (λ e. end_of (g.O.Out.state e.out) (g.I.In.state e.inn)) c.args.ends.now) c.deref-2.ensures.value (c.deref.ensures.value ∙ said) q,
    )) c.report.ensures
