use Rattle.std.proofs.Common.{inl, inr, refl, sym, ap, ◌∙◌}
use Rattle.message_parts.specs.Parcels.{outgoing_of}
use Rattle.write_chain.specs.Puts.{next_of}
use Rattle.write_chain.proofs.Faulting.{rose_some}
use Rattle.write_chain.proofs.NotingWhileWriting.{wrote_rights}
use Rattle.write_chain.proofs.Turning.{hand_put, put_none}
use Rattle.write_chain.proofs.WriterThroughSteps.{clean_put}
use Rattle.write_chain.proofs.Looking.{is_none, is_some, some_piece, all_taken}
use Rattle.write_chain.proofs.right.HeldChain.put_piece.Goals as goal

pub put-put-requires : goal.put-put-requires
put-put-requires g c = record { some = some_piece (outgoing_of c.args.hand.bytes).parts (outgoing_of c.args.hand.bytes).left (outgoing_of c.args.hand.bytes).taken c.requires.may.1; looked = c.requires.may.0.2 }

pub returns-then-is_whole_taken-clause-tried : goal.returns-then-is_whole_taken-clause-tried
returns-then-is_whole_taken-clause-tried g c = let k = clean_put c.args.hand c.put-put.new.self _ c.args.seat.now.me c.put-put.ensures.has (hand_put c.args.hand c.put-put.new.self _ c.put-put.result c.requires.may.0.0.turn c.requires.may.0.2 c.put-put.ensures.step c.put-put.ensures.called) c.requires.may.0 in ((k.0, k.1, is_none (outgoing_of c.put-put.new.self.bytes).left c.is_whole_taken.result c.is_whole_taken.ensures c.if-is_whole_taken.true), ap (λ t. t.0) c.put-put.ensures.has.others.1)

pub returns-then-is_whole_taken-clause-wrote : goal.returns-then-is_whole_taken-clause-wrote
returns-then-is_whole_taken-clause-wrote g c = wrote_rights c.args.seat.now.me.0 c.args.seat.now.me.0 refl

pub returns-in-Took-clause-tried : goal.returns-in-Took-clause-tried
returns-in-Took-clause-tried g c = let k = clean_put c.args.hand c.put-put.new.self _ c.args.seat.now.me c.put-put.ensures.has (hand_put c.args.hand c.put-put.new.self _ c.put-put.result c.requires.may.0.0.turn c.requires.may.0.2 c.put-put.ensures.step c.put-put.ensures.called) c.requires.may.0 in ((k.0, inr (k.1, is_some (outgoing_of c.put-put.new.self.bytes).left c.is_whole_taken.result c.is_whole_taken.ensures c.if-is_whole_taken.false), put_none c.args.hand c.put-put.new.self c.put-put.result (λ e. cc (e, c.in-Took.is)) c.put-put.ensures.called c.requires.may.0.2.1), tt)

pub returns-in-Took-clause-wrote : goal.returns-in-Took-clause-wrote
returns-in-Took-clause-wrote g c = wrote_rights c.args.seat.now.me.0 c.args.seat.now.me.0 refl

pub returns-in-Again-clause-tried : goal.returns-in-Again-clause-tried
returns-in-Again-clause-tried g c = let k = clean_put c.args.hand c.put-put.new.self _ c.args.seat.now.me c.put-put.ensures.has (hand_put c.args.hand c.put-put.new.self _ c.put-put.result c.requires.may.0.0.turn c.requires.may.0.2 c.put-put.ensures.step c.put-put.ensures.called) c.requires.may.0 in ((k.0, inr (k.1, is_some (outgoing_of c.put-put.new.self.bytes).left c.is_whole_taken.result c.is_whole_taken.ensures c.if-is_whole_taken.false), put_none c.args.hand c.put-put.new.self c.put-put.result (λ e. cc (e, c.in-Again.is)) c.put-put.ensures.called c.requires.may.0.2.1), tt)

pub returns-in-Again-clause-wrote : goal.returns-in-Again-clause-wrote
returns-in-Again-clause-wrote g c = wrote_rights c.args.seat.now.me.0 c.args.seat.now.me.0 refl

pub fail_link-requires-clause-may : goal.fail_link-requires-clause-may
fail_link-requires-clause-may g c = let k = clean_put c.args.hand c.put-put.new.self _ c.args.seat.now.me c.put-put.ensures.has (hand_put c.args.hand c.put-put.new.self _ c.put-put.result c.requires.may.0.0.turn c.requires.may.0.2 c.put-put.ensures.step c.put-put.ensures.called) c.requires.may.0 in (k.0, inr (k.1, is_some (outgoing_of c.put-put.new.self.bytes).left c.is_whole_taken.result c.is_whole_taken.ensures c.if-is_whole_taken.false))

pub fail_link-requires-clause-fault : goal.fail_link-requires-clause-fault
fail_link-requires-clause-fault g c = let h = c.requires.may.0.0.has in let k = clean_put c.args.hand c.put-put.new.self _ c.args.seat.now.me c.put-put.ensures.has (hand_put c.args.hand c.put-put.new.self _ c.put-put.result c.requires.may.0.0.turn c.requires.may.0.2 c.put-put.ensures.step c.put-put.ensures.called) c.requires.may.0 in record { before = c.args.hand.home.out; after = c.put-put.new.self.home.out; link_before = h.own ∙ sym c.put-put.ensures.has.others.0; link_after = k.0.has.own; unfinished = h.unfinished; rose = c.put-put.ensures.faults c.in-Failed.is h.unfinished }

pub fail_link-requires-clause-rose : goal.fail_link-requires-clause-rose
fail_link-requires-clause-rose g c = rose_some _ _ (c.put-put.ensures.faults c.in-Failed.is c.requires.may.0.0.has.unfinished)

pub returns-in-Failed-clause-tried : goal.returns-in-Failed-clause-tried
returns-in-Failed-clause-tried g c = (c.fail_link.ensures.has, tt)

pub returns-then-is_whole_taken-clause-faults : goal.returns-then-is_whole_taken-clause-faults
returns-then-is_whole_taken-clause-faults g c = inl (c.put-put.ensures.kept (all_taken (outgoing_of c.args.hand.bytes).left (outgoing_of c.put-put.new.self.bytes).left (next_of c.args.hand.bytes) c.put-put.result c.requires.may.1 c.put-put.ensures.has.left
    (is_none (outgoing_of c.put-put.new.self.bytes).left c.is_whole_taken.result c.is_whole_taken.ensures c.if-is_whole_taken.true)))

pub returns-in-Took-clause-faults : goal.returns-in-Took-clause-faults
returns-in-Took-clause-faults g c = inl (c.put-put.ensures.kept (λ e. cc (e, c.in-Took.is)))

pub returns-in-Again-clause-faults : goal.returns-in-Again-clause-faults
returns-in-Again-clause-faults g c = inl (c.put-put.ensures.kept (λ e. cc (e, c.in-Again.is)))

pub returns-in-Failed-clause-faults : goal.returns-in-Failed-clause-faults
returns-in-Failed-clause-faults g c = inr c.fail_link.ensures.dead

pub returns-then-is_whole_taken-clause-put : goal.returns-then-is_whole_taken-clause-put
returns-then-is_whole_taken-clause-put g c = (c.put-put.result, c.put-put.ensures.called)

pub returns-in-Took-clause-put : goal.returns-in-Took-clause-put
returns-in-Took-clause-put g c = (c.put-put.result, c.put-put.ensures.called)

pub returns-in-Again-clause-put : goal.returns-in-Again-clause-put
returns-in-Again-clause-put g c = (c.put-put.result, c.put-put.ensures.called)

pub returns-in-Failed-clause-put : goal.returns-in-Failed-clause-put
returns-in-Failed-clause-put g c = (c.put-put.result, c.put-put.ensures.called)
