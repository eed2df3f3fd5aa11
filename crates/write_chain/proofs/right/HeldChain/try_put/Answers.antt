use Rattle.std.proofs.Common.{Bool, inl, sym, ap, ◌∙◌, subst}
use Rattle.write_chain.specs.declared.right.LinkCall.TheVariants as call
use Rattle.write_chain.specs.Puts.{Called}
use Rattle.write_chain.proofs.NotingWhileWriting.{wrote_then}
use Rattle.write_chain.proofs.Turning.{tried_once}
use Rattle.write_chain.proofs.Looking.{false_true}
use Rattle.write_chain.proofs.right.HeldChain.try_put.Goals as goal

pub put_or_place-requires-clause-may : goal.put_or_place-requires-clause-may
put_or_place-requires-clause-may g c = c.look.ensures.live c.if-look.true

pub returns-then-look-clause-wrote : goal.returns-then-look-clause-wrote
returns-then-look-clause-wrote g c = wrote_then c.args.seat.now.me.0 c.look.new.seat.me.0 c.put_or_place.new.seat.me.0 c.look.ensures.wrote c.put_or_place.ensures.wrote

pub returns-clause-tried : goal.returns-clause-tried
returns-clause-tried g c = c.look.ensures.dead c.if-look.false

pub returns-clause-faults : goal.returns-clause-faults
returns-clause-faults g c = inl (ap (λ h. (g.O.Out.state h.home.out).faults) c.look.ensures.looked.1)

pub returns-then-look-clause-stays : goal.returns-then-look-clause-stays
returns-then-look-clause-stays g c = λ d. absurd (false_true (sym (c.look.ensures.stays d) ∙ c.if-look.true))

pub returns-clause-stays : goal.returns-clause-stays
returns-clause-stays g c = λ d. c.look.ensures.looked

pub returns-then-look-clause-once : goal.returns-then-look-clause-once
returns-then-look-clause-once g c = tried_once c.args.hand c.look.new.hand c.put_or_place.result c.look.ensures.looked (subst (λ (b : Bool). Called (call.Looked b) c.args.hand c.look.new.hand) c.if-look.true c.look.ensures.called) c.put_or_place.ensures.put

pub returns-clause-once : goal.returns-clause-once
returns-clause-once g c = (subst (λ (b : Bool). Called (call.Looked b) c.args.hand c.look.new.hand) c.if-look.false c.look.ensures.called).calls
