use Rattle.std.proofs.Common.{arith}
use Rattle.serve_port.proofs.Guests.{accepts_more}
use Rattle.serve_port.proofs.accepting.+accepting.Goals as goal

pub serve_rest-returns-in-Ok-clause-accepts : goal.serve_rest-returns-in-Ok-clause-accepts
serve_rest-returns-in-Ok-clause-accepts g t c =
    let some = c.if-count-eq0.false in
    accepts_more g.D.G.Guest.served c.args.count _ _ _ _ _ _ _ (omega (arith, some)) c.in-Ok.ensures.accepted c.accept.ensures.kept c.serve_beside.ensures.accepts
