use Rattle.std.proofs.Common.{◌≡◌, ◌∙◌, refl, ap, slice_index_or}
use Rattle.std.proofs.Math.Seq.{map-set_same}
use Rattle.sock_io.specs.LinkHalves.{end_of}
use Rattle.seat_states.specs.declared.link_step.LinkStep.TheVariants as links
use Rattle.seat_states.specs.declared.table_step.TableStep.TheVariants as steps
use Rattle.machine_steps.proofs.AskingLinks.{end_kept, out_at, outs_set}
use Rattle.machine_tables.proofs.words.end_link.Goals as goal

pub returns-in-Link-FinishLink-clause-outs : goal.returns-in-Link-FinishLink-clause-outs
returns-in-Link-FinishLink-clause-outs g c =
    let own = rw c.in-Link-FinishLink.is at c.in-Link-FinishLink.field-0-is in
    let is : c.args.step ≡ steps.Link (links.FinishLink c.in-Link-FinishLink.link) = c.in-Link-FinishLink.is ∙ ap steps.Link own in
    let inside = rw is at c.requires in
    rw is (_, _, out_at (λ e. g.O.Out.state e.out) c.args.ends.now c.from.result c.in-Link-FinishLink.link c.index-ends-from.result c.from.ensures inside c.index-ends-from.is, outs_set (λ e. g.O.Out.state e.out) c.args.ends.now c.from.result c.in-Link-FinishLink.link _ c.from.ensures, c.finish.ensures)

pub returns-in-Link-FinishLink-clause-inns : goal.returns-in-Link-FinishLink-clause-inns
returns-in-Link-FinishLink-clause-inns g c = map-set_same (λ e. g.I.In.state e.inn) c.args.ends.now c.from.result _ c.index-ends-from.result refl

pub returns-in-Link-FinishLink-clause-ends : goal.returns-in-Link-FinishLink-clause-ends
returns-in-Link-FinishLink-clause-ends g c =
    map-set_same (λ e. end_of (g.O.Out.state e.out) (g.I.In.state e.inn)) c.args.ends.now c.from.result _ c.index-ends-from.result
    (end_kept _ _ (g.I.In.state (slice_index_or c.args.ends.now c.from.result c.index-ends-from.result).inn) c.finish.ensures)
