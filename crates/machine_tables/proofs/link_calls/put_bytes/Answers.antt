use Rattle.std.proofs.Common.{refl, slice_index_or}
use Rattle.std.proofs.Math.Seq.{map-set_same}
use Rattle.sock_io.specs.declared.link.Put.TheVariants as puts
use Rattle.sock_io.specs.LinkHalves.{PutStep, end_of}
use Rattle.seat_programs.specs.BufferParts.{part}
use Rattle.message_parts.specs.Parcels.{outgoing_of}
use Rattle.machine_steps.proofs.AskingLinks.{asked, same_link, put_of}
use Rattle.machine_tables.proofs.link_calls.put_bytes.Goals as goal

pub returns-in-Took-clause-outs : goal.returns-in-Took-clause-outs
returns-in-Took-clause-outs g c =
    let o = outgoing_of c.args.out.now in
    asked (λ e. g.O.Out.state e.out) (λ e. end_of (g.O.Out.state e.out) (g.I.In.state e.inn)) c.args.ends.now c.from.result c.args.link c.index-ends-from.result _ c.from.ensures c.requires.there c.index-ends-from.is
    (λ out out'. PutStep out out' (part o.parts o.left o.taken) (puts.Took c.in-Took.count)) (put_of c.next_piece.ensures c.in-Took.is c.put-answer.ensures) (same_link _ _ (g.I.In.state (slice_index_or c.args.ends.now c.from.result c.index-ends-from.result).inn) c.put-answer.ensures.same) refl refl (λ a. refl)

pub returns-in-Again-clause-outs : goal.returns-in-Again-clause-outs
returns-in-Again-clause-outs g c =
    let o = outgoing_of c.args.out.now in
    asked (λ e. g.O.Out.state e.out) (λ e. end_of (g.O.Out.state e.out) (g.I.In.state e.inn)) c.args.ends.now c.from.result c.args.link c.index-ends-from.result _ c.from.ensures c.requires.there c.index-ends-from.is
    (λ out out'. PutStep out out' (part o.parts o.left o.taken) c.put-answer.result) (put_of c.next_piece.ensures refl c.put-answer.ensures) (same_link _ _ (g.I.In.state (slice_index_or c.args.ends.now c.from.result c.index-ends-from.result).inn) c.put-answer.ensures.same) refl refl (λ a. refl)

pub returns-in-Took-clause-inns : goal.returns-in-Took-clause-inns
returns-in-Took-clause-inns g c = map-set_same (λ e. g.I.In.state e.inn) c.args.ends.now c.from.result _ c.index-ends-from.result refl

pub returns-in-Again-clause-inns : goal.returns-in-Again-clause-inns
returns-in-Again-clause-inns g c = map-set_same (λ e. g.I.In.state e.inn) c.args.ends.now c.from.result _ c.index-ends-from.result refl
