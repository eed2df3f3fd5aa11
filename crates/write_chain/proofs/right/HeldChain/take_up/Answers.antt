use Rattle.std.proofs.Common.{ℕ, ◌<◌, sym, subst}
use Rattle.sock_words.specs.PackedWords.{socket_id_version}
use Rattle.sock_model.specs.declared.chain.Stage.TheVariants.{Writes}
use Rattle.sock_model.specs.declared.marks.Mark.TheVariants.{Met}
use Rattle.sock_model.specs.MarkWeights.{is_hold, is_met}
use Rattle.sock_model.specs.SlotRows.{marks_of}
use Rattle.write_chain.specs.NotingWhileWriting.{met}
use Rattle.write_chain.proofs.NotingWhileWriting.{found_it, wrote_then, wrote_rights}
use Rattle.write_chain.proofs.WriterThroughSteps.{met_stands, met_wrote}
use Rattle.write_chain.proofs.right.HeldChain.take_up.Goals as goal

pub slot_at-slot-requires : goal.slot_at-slot-requires
slot_at-slot-requires g c = record { inside = c.requires.may.1.writer.holds.inside }

pub load_link-found-requires-clause-held : goal.load_link-found-requires-clause-held
load_link-found-requires-clause-held g c = (socket_id_version c.args.self.now.sock.id.0, (subst (λ (j : ℕ). 0 < marks_of (is_hold (socket_id_version c.args.self.now.sock.id.0)) j c.args.seat.now.me.0) (sym c.slot_at-slot.ensures.slot) c.requires.may.1.writer.holds.held))

pub fetch_link-link-requires-clause-may : goal.fetch_link-link-requires-clause-may
fetch_link-link-requires-clause-may g c = (c.args.self.now.last.0, Writes c.args.self.now.last.0, met_stands c.args.seat.now.me c.load_link-found.new.seat.me c.slot_at-slot.result c.load_link-found.result c.slot_at-slot.ensures.slot c.requires.may.1 (c.load_link-found.ensures.same (socket_id_version c.args.self.now.sock.id.0) c.requires.may.0 (subst (λ (j : ℕ). 0 < marks_of (is_hold (socket_id_version c.args.self.now.sock.id.0)) j c.args.seat.now.me.0) (sym c.slot_at-slot.ensures.slot) c.requires.may.1.writer.holds.held) (subst (λ (j : ℕ). 0 < marks_of (is_met (socket_id_version c.args.self.now.sock.id.0) c.requires.may.0) j c.args.seat.now.me.0) (sym c.slot_at-slot.ensures.slot) c.requires.may.1.writer.holds.met)) (c.load_link-found.ensures.view (socket_id_version c.args.self.now.sock.id.0) (subst (λ (j : ℕ). 0 < marks_of (is_hold (socket_id_version c.args.self.now.sock.id.0)) j c.args.seat.now.me.0) (sym c.slot_at-slot.ensures.slot) c.requires.may.1.writer.holds.held)) {O = g.row.O.Denot} {state = g.O.Out.state} (found_it (Met (socket_id_version c.args.self.now.sock.id.0) c.load_link-found.result) (met c.load_link-found.result)))

pub take_next-requires-clause-may : goal.take_next-requires-clause-may
take_next-requires-clause-may g c = (c.fetch_link-link.ensures.has c.args.self.now.last.0 (Writes c.args.self.now.last.0) (met_stands c.args.seat.now.me c.load_link-found.new.seat.me c.slot_at-slot.result c.load_link-found.result c.slot_at-slot.ensures.slot c.requires.may.1 (c.load_link-found.ensures.same (socket_id_version c.args.self.now.sock.id.0) c.requires.may.0 (subst (λ (j : ℕ). 0 < marks_of (is_hold (socket_id_version c.args.self.now.sock.id.0)) j c.args.seat.now.me.0) (sym c.slot_at-slot.ensures.slot) c.requires.may.1.writer.holds.held) (subst (λ (j : ℕ). 0 < marks_of (is_met (socket_id_version c.args.self.now.sock.id.0) c.requires.may.0) j c.args.seat.now.me.0) (sym c.slot_at-slot.ensures.slot) c.requires.may.1.writer.holds.met)) (c.load_link-found.ensures.view (socket_id_version c.args.self.now.sock.id.0) (subst (λ (j : ℕ). 0 < marks_of (is_hold (socket_id_version c.args.self.now.sock.id.0)) j c.args.seat.now.me.0) (sym c.slot_at-slot.ensures.slot) c.requires.may.1.writer.holds.held)) {O = g.row.O.Denot} {state = g.O.Out.state} (found_it (Met (socket_id_version c.args.self.now.sock.id.0) c.load_link-found.result) (met c.load_link-found.result))), c.requires.may.1.writer.last_ticket)

pub returns-clause-wrote : goal.returns-clause-wrote
returns-clause-wrote g c = wrote_then c.args.seat.now.me.0 c.load_link-found.new.seat.me.0 c.take_next.new.seat.me.0
    (met_wrote c.args.seat.now.me c.load_link-found.new.seat.me c.slot_at-slot.result c.load_link-found.result c.slot_at-slot.ensures.slot c.requires.may.1 (c.load_link-found.ensures.same (socket_id_version c.args.self.now.sock.id.0) c.requires.may.0 (subst (λ (j : ℕ). 0 < marks_of (is_hold (socket_id_version c.args.self.now.sock.id.0)) j c.args.seat.now.me.0) (sym c.slot_at-slot.ensures.slot) c.requires.may.1.writer.holds.held) (subst (λ (j : ℕ). 0 < marks_of (is_met (socket_id_version c.args.self.now.sock.id.0) c.requires.may.0) j c.args.seat.now.me.0) (sym c.slot_at-slot.ensures.slot) c.requires.may.1.writer.holds.met)) (c.load_link-found.ensures.view (socket_id_version c.args.self.now.sock.id.0) (subst (λ (j : ℕ). 0 < marks_of (is_hold (socket_id_version c.args.self.now.sock.id.0)) j c.args.seat.now.me.0) (sym c.slot_at-slot.ensures.slot) c.requires.may.1.writer.holds.held)))
    (wrote_then c.load_link-found.new.seat.me.0 c.fetch_link-link.new.seat.me.0 c.take_next.new.seat.me.0 c.fetch_link-link.ensures.wrote (wrote_rights c.fetch_link-link.new.seat.me.0 c.take_next.new.seat.me.0 c.take_next.ensures.others))
