use Rattle.std.proofs.Common.{Bool, not, refl, subst}
use Rattle.write_chain.specs.declared.right.LinkCall.TheVariants as call
use Rattle.write_chain.specs.Puts.{Called}
use Rattle.write_chain.proofs.WriterThroughSteps.{may_look, part_looked, clean_looked}
use Rattle.write_chain.proofs.Looking.{live, dead, dead_again, still_none, never_true, looked_wrote, found_live, found_dead}
use Rattle.write_chain.proofs.right.HeldChain.look.Goals as goal

pub slot_at-slot-requires : goal.slot_at-slot-requires
slot_at-slot-requires g c = record { inside = c.requires.may.0.writer.holds.inside }

pub look_to_write-step-requires-clause-may : goal.look_to_write-step-requires-clause-may
look_to_write-step-requires-clause-may g c = may_look c.slot_at-slot.result c.slot_at-slot.ensures.slot c.requires.may.0.writer

pub returns-clause-looked : goal.returns-clause-looked
returns-clause-looked g c = (c.drop-arg-1.given.0, refl)

pub returns-clause-called : goal.returns-clause-called
returns-clause-called g c = record { calls = c.called.ensures; came = refl }

pub returns-clause-live : goal.returns-clause-live
returns-clause-live g c = let h = c.requires.may in let view = c.look_to_write-step.ensures.view h.0.right_is h.0.writer.one in λ t. let even = found_live c.is_failed-live.result c.look_to_write-step.result.found c.look_to_write-step.result.found refl c.is_failed-live.ensures t in
    clean_looked c.args.hand.now _ c.look_to_write-step.new.seat.me (c.drop-arg-1.given.0, refl) (subst (λ (b : Bool). Called (call.Looked b) c.args.hand.now (record c.args.hand.now { calls = c.called.result; numbered = c.drop-arg-1.given.0 })) t record { calls = c.called.ensures; came = refl })
    (still_none c.args.hand.now c.args.seat.now.me c.look_to_write-step.new.seat.me c.slot_at-slot.result c.look_to_write-step.result.found c.slot_at-slot.ensures.slot h view even)
    (live c.args.hand.now c.args.seat.now.me c.look_to_write-step.new.seat.me c.slot_at-slot.result c.look_to_write-step.result.found c.slot_at-slot.ensures.slot h view even)

pub returns-clause-dead : goal.returns-clause-dead
returns-clause-dead g c = let h = c.requires.may in λ f. let d = dead c.args.hand.now c.args.seat.now.me c.look_to_write-step.new.seat.me c.slot_at-slot.result c.look_to_write-step.result.found c.slot_at-slot.ensures.slot h (c.look_to_write-step.ensures.view h.0.right_is h.0.writer.one) (found_dead c.is_failed-live.result c.look_to_write-step.result.found c.look_to_write-step.result.found refl c.is_failed-live.ensures f) in
    (part_looked c.args.hand.now _ c.look_to_write-step.new.seat.me _ (c.drop-arg-1.given.0, refl) record { calls = c.called.ensures; came = refl } d.0, d.1)

pub returns-clause-wrote : goal.returns-clause-wrote
returns-clause-wrote g c = let h = c.requires.may in looked_wrote c.args.hand.now c.args.seat.now.me c.look_to_write-step.new.seat.me c.slot_at-slot.result c.look_to_write-step.result.found c.slot_at-slot.ensures.slot h (c.look_to_write-step.ensures.view h.0.right_is h.0.writer.one)

pub returns-clause-stays : goal.returns-clause-stays
returns-clause-stays g c = let h = c.requires.may in λ d. never_true (not c.is_failed-live.result) (λ t. dead_again c.args.hand.now c.args.seat.now.me c.look_to_write-step.new.seat.me c.slot_at-slot.result c.look_to_write-step.result.found c.slot_at-slot.ensures.slot h (c.look_to_write-step.ensures.view h.0.right_is h.0.writer.one) d
    (found_live c.is_failed-live.result c.look_to_write-step.result.found c.look_to_write-step.result.found refl c.is_failed-live.ensures t))
