use Rattle.std.proofs.Common.{Bool, List, ℕ, ap, subst}
use Rattle.std.proofs.lemmas.Result.{on_ok_weaker}
use Rattle.sock_io.specs.LinkHalves.{IsServed}
use Rattle.sock_io.specs.LinksInMemory.{MemInState}
use Rattle.loop_link.specs.ServingFedBytes.{Settled, offer_of}
use Rattle.loop_link.proofs.LinkOffersStay.{settles}
use Rattle.loop_link.proofs.loop_linker.LoopLinkerLinker.settle.Goals as goal

pub returns-clause-served : goal.returns-clause-served
returns-clause-served c = let out = c.args.ends.now.out in let inn = c.args.ends.now.inn in let new = c.settle.new.self in on_ok_weaker c.settle.result
    (λ s. settles out.taken out.inner.finished inn new
    (subst (λ (f : Bool). IsServed out.taken f inn.half.given (offer_of inn) → Settled out.taken f new) c.is_finished-finished.ensures
    (subst (λ (t : List ℕ). IsServed t c.is_finished-finished.result inn.half.given (offer_of inn) → Settled t c.is_finished-finished.result new) c.taken.ensures s))
    (ap (λ (h : MemInState). h.given) c.settle.ensures.half))
    c.settle.ensures.settled
