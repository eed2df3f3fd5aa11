use Rattle.std.proofs.Common.{refl, slice_index_or}
use Rattle.std.proofs.Math.Seq.{map-set_same}
use Rattle.sock_io.specs.LinkHalves.{ReadyStep, end_of}
use Rattle.machine_steps.proofs.AskingLinks.{asked, same_link}
use Rattle.machine_tables.proofs.link_calls.ask_ready.Goals as goal

pub returns-clause-outs : goal.returns-clause-outs
returns-clause-outs g c = asked (λ e. g.O.Out.state e.out) (λ e. end_of (g.O.Out.state e.out) (g.I.In.state e.inn)) c.args.ends.now c.from.result c.args.link c.index-ends-from.result _ c.from.ensures c.requires c.index-ends-from.is (λ out out'. ReadyStep out out' c.ready.result) c.ready.ensures (same_link _ _ (g.I.In.state (slice_index_or c.args.ends.now c.from.result c.index-ends-from.result).inn) c.ready.ensures.same) refl refl (λ a. refl)

pub returns-clause-inns : goal.returns-clause-inns
returns-clause-inns g c = map-set_same (λ e. g.I.In.state e.inn) c.args.ends.now c.from.result _ c.index-ends-from.result refl
