use Rattle.std.proofs.Common.{sym, subst}
use Rattle.sock_io.specs.LinkHalves.{IsServed}
use Rattle.sock_io.specs.LinksInMemory.{MemInState, closing}
use Rattle.loop_link.specs.ServingFedBytes.{LoopInState, Settled, offer_of}
use Rattle.loop_link.proofs.LinkOffersStay.{settled_open, settled_closed}
use Rattle.loop_link.proofs.loop_in.LoopIn.settle.Goals as goal

pub returns-then-finished-clause-settled : goal.returns-then-finished-clause-settled
returns-then-finished-clause-settled c =
    subst (λ (h : MemInState). IsServed c.args.took.now c.args.finished c.args.self.now.half.given (offer_of c.args.self.now) → Settled c.args.took.now c.args.finished (record { half = h; peer = c.answer.new.self })) (sym c.close.ensures)
    (subst (λ (i : LoopInState). IsServed c.args.took.now c.args.finished i.half.given (offer_of i) → Settled c.args.took.now c.args.finished (record { half = record c.answer.new.inn { ending = closing c.answer.new.inn.ending }; peer = c.answer.new.self })) c.self.view_is
    (settled_closed c.args.took.now c.args.finished c.self.inside.half c.answer.new.inn c.self.inside.peer c.answer.new.self c.self.invariant.0 c.in_ok-answer.ensures.ok c.if-finished.true))

pub returns-else-finished-clause-settled : goal.returns-else-finished-clause-settled
returns-else-finished-clause-settled c =
    subst (λ (i : LoopInState). IsServed c.args.took.now c.args.finished i.half.given (offer_of i) → Settled c.args.took.now c.args.finished (record { half = c.answer.new.inn; peer = c.answer.new.self })) c.self.view_is
    (settled_open c.args.took.now c.args.finished c.self.inside.half c.answer.new.inn c.self.inside.peer c.answer.new.self c.self.invariant.0 c.in_ok-answer.ensures.ok c.if-finished.false)
