use Rattle.std.proofs.Common.{false, ◌∷◌, inl, refl, ap, ◌∙◌, sym, subst}
use Rattle.write_chain.specs.declared.hold.Once.TheVariants as once
use Rattle.write_chain.specs.declared.right.LinkCall.TheVariants as call
use Rattle.write_chain.specs.WritingRightInHand.{OnceBy, OnceTried}
use Rattle.write_chain.proofs.NotingWhileWriting.{wrote_then, wrote_rights, rights_then}
use Rattle.write_chain.proofs.Dropping.{still_dead}
use Rattle.write_chain.proofs.Turning.{goes_once, whole_once, left_once}
use Rattle.write_chain.proofs.hold.write_once.Goals as goal

pub take_up-hand-requires-clause-may : goal.take_up-hand-requires-clause-may
take_up-hand-requires-clause-may g c = (c.requires.may.link, c.requires.may.stands)

pub returns-in-Dead-clause-once : goal.returns-in-Dead-clause-once
returns-in-Dead-clause-once g c = subst (λ r. OnceBy c.args.table.now.rule.plan c.args.table.now.rule.ways.list c.args.right.sock (once.Keep r) c.try_put.new.seat.me) (sym c.with.ensures) (refl, c.in-Dead.ensures.tried.0, tt)

pub returns-in-Dead-clause-wrote : goal.returns-in-Dead-clause-wrote
returns-in-Dead-clause-wrote g c = wrote_then c.args.seat.now.me.0 c.take_up-hand.new.seat.me.0 c.try_put.new.seat.me.0 c.take_up-hand.ensures.wrote c.try_put.ensures.wrote

pub place-doing-requires-clause-may : goal.place-doing-requires-clause-may
place-doing-requires-clause-may g c = c.in-Whole.ensures.tried.0

pub leave_last-requires-clause-last : goal.leave_last-requires-clause-last
leave_last-requires-clause-last g c = c.place-doing.ensures.last (c.in-Whole.ensures.tried.1 ∙ c.take_up-hand.ensures.now)

pub returns-in-Whole-clause-wrote : goal.returns-in-Whole-clause-wrote
returns-in-Whole-clause-wrote g c = wrote_then c.args.seat.now.me.0 c.take_up-hand.new.seat.me.0 c.leave_last.new.seat.me.0 c.take_up-hand.ensures.wrote
    (wrote_then c.take_up-hand.new.seat.me.0 c.try_put.new.seat.me.0 c.leave_last.new.seat.me.0 c.try_put.ensures.wrote
    (wrote_rights c.try_put.new.seat.me.0 c.leave_last.new.seat.me.0 (rights_then c.try_put.new.seat.me.0 c.place-doing.new.seat.me.0 c.leave_last.new.seat.me.0 c.place-doing.ensures.others c.leave_last.ensures.others)))

pub returns-in-Goes-clause-once : goal.returns-in-Goes-clause-once
returns-in-Goes-clause-once g c = subst (λ r. OnceBy c.args.table.now.rule.plan c.args.table.now.rule.ways.list c.args.right.sock (once.Keep r) c.try_put.new.seat.me) (sym c.with-in-Goes.ensures) (refl, c.in-Goes.ensures.tried.0, c.in-Goes.ensures.tried.1)

pub returns-in-Goes-clause-wrote : goal.returns-in-Goes-clause-wrote
returns-in-Goes-clause-wrote g c = wrote_then c.args.seat.now.me.0 c.take_up-hand.new.seat.me.0 c.try_put.new.seat.me.0 c.take_up-hand.ensures.wrote c.try_put.ensures.wrote

pub returns-in-Dead-clause-stays : goal.returns-in-Dead-clause-stays
returns-in-Dead-clause-stays g c = λ d. tt

pub returns-in-Whole-clause-stays : goal.returns-in-Whole-clause-stays
returns-in-Whole-clause-stays g c = λ d. absurd (c.in-Whole.ensures.stays (still_dead c.args.right.sock.id.0 c.args.seat.now.me.0 c.take_up-hand.new.seat.me.0 c.take_up-hand.ensures.wrote d))

pub returns-in-Goes-clause-stays : goal.returns-in-Goes-clause-stays
returns-in-Goes-clause-stays g c = λ d. tt

pub returns-in-Dead-clause-tried : goal.returns-in-Dead-clause-tried
returns-in-Dead-clause-tried g c = subst (λ r. OnceTried (once.Keep r)) (sym c.with.ensures) (inl (c.in-Dead.ensures.once ∙ ap (λ l. call.Looked false ∷ l) c.take_up-hand.ensures.calls))

pub returns-in-Whole-clause-tried : goal.returns-in-Whole-clause-tried
returns-in-Whole-clause-tried g c = left_once c.leave_last.result c.leave_last.ensures.left (whole_once c.take_up-hand.result c.in-Whole.hand c.take_up-hand.ensures.calls c.in-Whole.ensures.once c.in-Whole.ensures.tried.0.0.turn c.in-Whole.ensures.tried.0.2)

pub returns-in-Goes-clause-tried : goal.returns-in-Goes-clause-tried
returns-in-Goes-clause-tried g c = subst (λ r. OnceTried (once.Keep r)) (sym c.with-in-Goes.ensures) (goes_once c.take_up-hand.result c.in-Goes.doing c.take_up-hand.ensures.calls c.in-Goes.ensures.once)
