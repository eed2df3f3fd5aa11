use Rattle.std.proofs.Common.{◌≡◌, Bool, Ok, ◌∙◌, sym, ap, subst}
use Rattle.std.specs.Result.{is_err}
use Rattle.sock_io.specs.Peer.{ServeStep}
use Rattle.sock_io.specs.declared.link.Served.{Served}
use Rattle.sock_io.specs.declared.link.Served.TheVariants as served
use Rattle.link_crew.specs.ServingOtherEnd.{ServedToEnd}
use Rattle.link_crew.proofs.OtherEndMoving.{served_none, served_more, served_same, served_short, served_last}
use Rattle.link_crew.proofs.serving.serve_to_end.Goals as goal
use Rattle.link_crew.proofs.serving.serve_to_end.Goals.{then-short, else-short}

pub serves-init : goal.serves-init
serves-init g c = record { can_go = tt; is_finite = tt; on = served_none (g.P.Peer.state c.args.peer.now) }

pub serves-preserved-in-Ok-Moved : goal.serves-preserved-in-Ok-Moved
serves-preserved-in-Ok-Moved g c =
    let a = g.P.Peer.state c.args.peer.now in let b = g.P.Peer.state c.serves.peer in let d = g.P.Peer.state c.serve.new.self in
    let step : ServeStep b (Ok served.Moved) d = subst (λ (s : Served). ServeStep b (Ok s) d) c.in-Ok-Moved.field-0-is c.in-Ok-Moved.ensures in
    record { can_go = tt; is_finite = tt; on = served_more c.serves.short a b d c.serves.invariant.on step }

pub serves-preserved-in-Ok-Waiting : goal.serves-preserved-in-Ok-Waiting
serves-preserved-in-Ok-Waiting g c =
    let a = g.P.Peer.state c.args.peer.now in let b = g.P.Peer.state c.serves.peer in let d = g.P.Peer.state c.serve.new.self in
    let step : ServeStep b (Ok served.Waiting) d = subst (λ (s : Served). ServeStep b (Ok s) d) c.in-Ok-Waiting.field-0-is c.in-Ok-Waiting.ensures in
    record { can_go = tt; is_finite = tt; on = served_same c.serves.short a b d c.serves.invariant.on step }

pub serves-preserved : goal.serves-preserved
serves-preserved g c =
    let a = g.P.Peer.state c.args.peer.now in let b = g.P.Peer.state c.serves.peer in let d = g.P.Peer.state c.serve.new.self in
    record { can_go = tt; is_finite = tt; on = served_short c.serves.short a b d c.serves.invariant.on c.in-Err.field-0 c.in-Err.ensures }

pub returns-in-Ok-Done : goal.returns-in-Ok-Done
returns-in-Ok-Done g c =
    let a = g.P.Peer.state c.args.peer.now in let b = g.P.Peer.state c.serves.peer in let d = g.P.Peer.state c.serve.new.self in
    let step : ServeStep b (Ok served.Done) d = subst (λ (s : Served). ServeStep b (Ok s) d) c.in-Ok-Done.field-0-is c.in-Ok-Done.ensures in
    let last : ServedToEnd c.serves.short a d = served_last c.serves.short a b d c.serves.invariant.on step in
    let is : c.serves.short ≡ is_err c.if-short.result = elim c.if-short.branch [ then-short w ↦ w.if-short.true ∙ sym (ap is_err w.result-is) | else-short w ↦ w.if-short.false ∙ sym (ap is_err w.result-is) ] in
    subst (λ (s : Bool). ServedToEnd s a d) is last
