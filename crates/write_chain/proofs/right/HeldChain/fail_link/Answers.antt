use Rattle.std.proofs.Common.{inr, ap, ◌∙◌}
use Rattle.sock_words.specs.PackedWords.{socket_id_slot}
use Rattle.sock_rule.specs.LinkFaultNotes.{fault}
use Rattle.write_chain.specs.NotingWhileWriting.{faulted}
use Rattle.write_chain.proofs.Faulting.{fault_noted}
use Rattle.write_chain.proofs.NotingWhileWriting.{found_it, wrote_notes}
use Rattle.write_chain.proofs.WriterThroughSteps.{writer_noted, rest_noted}
use Rattle.write_chain.proofs.Looking.{fails, fails_dead}
use Rattle.write_chain.proofs.right.HeldChain.fail_link.Goals as goal

pub slot_at-slot-requires : goal.slot_at-slot-requires
slot_at-slot-requires g c = record { inside = c.requires.may.0.writer.holds.inside }

pub note_fault-requires-clause-hand : goal.note_fault-requires-clause-hand
note_fault-requires-clause-hand g c = let h = c.requires.may.0 in (h.right_is, h.writer.one, h.has.away)

pub set_failed-failed-requires-clause-held : goal.set_failed-failed-requires-clause-held
set_failed-failed-requires-clause-held g c = let w = writer_noted {O = g.row.O.Denot} {state = g.O.Out.state} {L = λ k. ⊥} c.requires.may.0.writer _ (found_it (fault c.args._hand.now.link) (faulted c.args._hand.now.link)) (fault_noted c.slot_at-slot.result (socket_id_slot c.args.self.now.sock.id.0) c.args._hand.now.link c.requires.may.0.right_is.link c.args.seat.now.me.0 c.note_fault.new.seat.me.0 c.slot_at-slot.ensures.slot c.requires.may.0.writer.link_is (ap (λ m. m.0) (c.note_fault.ensures.view c.requires.may.0.right_is c.requires.may.0.writer.one))) in record { inside = w.holds.inside; held = w.holds.held }

pub set_failed-failed-requires-clause-room : goal.set_failed-failed-requires-clause-room
set_failed-failed-requires-clause-room g c = (writer_noted {O = g.row.O.Denot} {state = g.O.Out.state} {L = λ k. ⊥} c.requires.may.0.writer _ (found_it (fault c.args._hand.now.link) (faulted c.args._hand.now.link)) (fault_noted c.slot_at-slot.result (socket_id_slot c.args.self.now.sock.id.0) c.args._hand.now.link c.requires.may.0.right_is.link c.args.seat.now.me.0 c.note_fault.new.seat.me.0 c.slot_at-slot.ensures.slot c.requires.may.0.writer.link_is (ap (λ m. m.0) (c.note_fault.ensures.view c.requires.may.0.right_is c.requires.may.0.writer.one)))).room

pub set_failed-failed-requires-clause-rests : goal.set_failed-failed-requires-clause-rests
set_failed-failed-requires-clause-rests g c = (writer_noted {O = g.row.O.Denot} {state = g.O.Out.state} {L = λ k. ⊥} c.requires.may.0.writer _ (found_it (fault c.args._hand.now.link) (faulted c.args._hand.now.link)) (fault_noted c.slot_at-slot.result (socket_id_slot c.args.self.now.sock.id.0) c.args._hand.now.link c.requires.may.0.right_is.link c.args.seat.now.me.0 c.note_fault.new.seat.me.0 c.slot_at-slot.ensures.slot c.requires.may.0.writer.link_is (ap (λ m. m.0) (c.note_fault.ensures.view c.requires.may.0.right_is c.requires.may.0.writer.one)))).rests

pub returns-clause-has : goal.returns-clause-has
returns-clause-has g c = let f = fails c.args.self.now.sock.id.0 c.args._hand.now.link c.args.seat.now.me.0 c.note_fault.new.seat.me.0 c.set_failed-failed.new.seat.me.0 c.set_failed-failed.result (fault_noted c.slot_at-slot.result (socket_id_slot c.args.self.now.sock.id.0) c.args._hand.now.link c.requires.may.0.right_is.link c.args.seat.now.me.0 c.note_fault.new.seat.me.0 c.slot_at-slot.ensures.slot c.requires.may.0.writer.link_is (ap (λ m. m.0) (c.note_fault.ensures.view c.requires.may.0.right_is c.requires.may.0.writer.one))) c.set_failed-failed.ensures.ok c.set_failed-failed.ensures.err c.requires.fault c.requires.may.0.writer.holds.met in
    let r = rest_noted c.args._hand.now c.args.seat.now.me c.set_failed-failed.new.seat.me f.notes f.noted f.became (c.set_failed-failed.ensures.slots ∙ ap (λ m. m.1) (c.note_fault.ensures.view c.requires.may.0.right_is c.requires.may.0.writer.one)) (λ t. c.requires.rose) c.requires.may in (r.0, r.1, inr (fails_dead c.args.self.now.sock.id.0 c.note_fault.new.seat.me.0 c.set_failed-failed.new.seat.me.0 c.set_failed-failed.result c.set_failed-failed.ensures.ok c.set_failed-failed.ensures.err))

pub returns-clause-wrote : goal.returns-clause-wrote
returns-clause-wrote g c = let f = fails c.args.self.now.sock.id.0 c.args._hand.now.link c.args.seat.now.me.0 c.note_fault.new.seat.me.0 c.set_failed-failed.new.seat.me.0 c.set_failed-failed.result (fault_noted c.slot_at-slot.result (socket_id_slot c.args.self.now.sock.id.0) c.args._hand.now.link c.requires.may.0.right_is.link c.args.seat.now.me.0 c.note_fault.new.seat.me.0 c.slot_at-slot.ensures.slot c.requires.may.0.writer.link_is (ap (λ m. m.0) (c.note_fault.ensures.view c.requires.may.0.right_is c.requires.may.0.writer.one))) c.set_failed-failed.ensures.ok c.set_failed-failed.ensures.err c.requires.fault c.requires.may.0.writer.holds.met in wrote_notes c.args.seat.now.me.0 c.set_failed-failed.new.seat.me.0 f.notes f.noted f.became

pub returns-clause-dead : goal.returns-clause-dead
returns-clause-dead g c = fails_dead c.args.self.now.sock.id.0 c.note_fault.new.seat.me.0 c.set_failed-failed.new.seat.me.0 c.set_failed-failed.result c.set_failed-failed.ensures.ok c.set_failed-failed.ensures.err
