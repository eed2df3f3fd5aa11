use Rattle.std.proofs.Common.{inl, inr, refl, sym, ◌∙◌}
use Rattle.write_chain.proofs.Faulting.{rose_some}
use Rattle.write_chain.proofs.NotingWhileWriting.{wrote_rights}
use Rattle.write_chain.proofs.Turning.{hand_asked, asked_none}
use Rattle.write_chain.proofs.WriterThroughSteps.{part_asked}
use Rattle.write_chain.proofs.right.HeldChain.ask.Goals as goal

pub returns-in-Now-clause-goes : goal.returns-in-Now-clause-goes
returns-in-Now-clause-goes g c = let r = part_asked c.args.hand c.ready.new.self c.args.seat.now.me c.ready.ensures.has (hand_asked c.args.hand c.ready.new.self c.ready.result c.requires.may.0.turn c.ready.ensures.step c.ready.ensures.called) c.requires.may in (r.0, r.1, asked_none c.args.hand c.ready.new.self c.ready.result (λ e. cc (e, c.in-Now.is)) c.ready.ensures.called c.requires.may.2)

pub returns-in-Now-clause-wrote : goal.returns-in-Now-clause-wrote
returns-in-Now-clause-wrote g c = wrote_rights c.args.seat.now.me.0 c.args.seat.now.me.0 refl

pub returns-in-NotYet-clause-goes : goal.returns-in-NotYet-clause-goes
returns-in-NotYet-clause-goes g c = let r = part_asked c.args.hand c.ready.new.self c.args.seat.now.me c.ready.ensures.has (hand_asked c.args.hand c.ready.new.self c.ready.result c.requires.may.0.turn c.ready.ensures.step c.ready.ensures.called) c.requires.may in (r.0, r.1, asked_none c.args.hand c.ready.new.self c.ready.result (λ e. cc (e, c.in-NotYet.is)) c.ready.ensures.called c.requires.may.2)

pub returns-in-NotYet-clause-wrote : goal.returns-in-NotYet-clause-wrote
returns-in-NotYet-clause-wrote g c = wrote_rights c.args.seat.now.me.0 c.args.seat.now.me.0 refl

pub fail_link-requires-clause-may : goal.fail_link-requires-clause-may
fail_link-requires-clause-may g c = part_asked c.args.hand c.ready.new.self c.args.seat.now.me c.ready.ensures.has (hand_asked c.args.hand c.ready.new.self c.ready.result c.requires.may.0.turn c.ready.ensures.step c.ready.ensures.called) c.requires.may

pub fail_link-requires-clause-fault : goal.fail_link-requires-clause-fault
fail_link-requires-clause-fault g c = let h = c.requires.may.0.has in let k = part_asked c.args.hand c.ready.new.self c.args.seat.now.me c.ready.ensures.has (hand_asked c.args.hand c.ready.new.self c.ready.result c.requires.may.0.turn c.ready.ensures.step c.ready.ensures.called) c.requires.may in record { before = c.args.hand.home.out; after = c.ready.new.self.home.out; link_before = h.own ∙ sym c.ready.ensures.has.others.0; link_after = k.0.has.own; unfinished = h.unfinished; rose = c.ready.ensures.faults c.in-Failed.is h.unfinished }

pub fail_link-requires-clause-rose : goal.fail_link-requires-clause-rose
fail_link-requires-clause-rose g c = rose_some _ _ (c.ready.ensures.faults c.in-Failed.is c.requires.may.0.has.unfinished)

pub returns-in-Failed-clause-goes : goal.returns-in-Failed-clause-goes
returns-in-Failed-clause-goes g c = c.fail_link.ensures.has

pub returns-in-Failed-clause-wrote : goal.returns-in-Failed-clause-wrote
returns-in-Failed-clause-wrote g c = c.fail_link.ensures.wrote

pub returns-in-Now-clause-faults : goal.returns-in-Now-clause-faults
returns-in-Now-clause-faults g c = inl (c.ready.ensures.kept (λ e. cc (e, c.in-Now.is)))

pub returns-in-NotYet-clause-faults : goal.returns-in-NotYet-clause-faults
returns-in-NotYet-clause-faults g c = inl (c.ready.ensures.kept (λ e. cc (e, c.in-NotYet.is)))

pub returns-in-Failed-clause-faults : goal.returns-in-Failed-clause-faults
returns-in-Failed-clause-faults g c = inr c.fail_link.ensures.dead

pub returns-in-Now-clause-more : goal.returns-in-Now-clause-more
returns-in-Now-clause-more g c = tt

pub returns-in-NotYet-clause-more : goal.returns-in-NotYet-clause-more
returns-in-NotYet-clause-more g c = tt

pub returns-in-Failed-clause-more : goal.returns-in-Failed-clause-more
returns-in-Failed-clause-more g c = tt
