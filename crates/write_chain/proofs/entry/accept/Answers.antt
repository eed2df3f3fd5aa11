use Rattle.std.proofs.Common.{ℕ, ◌<◌, refl, sym, ap, ◌∙◌, subst, arith}
use Rattle.sock_words.specs.PackedWords.{socket_id_version}
use Rattle.sock_model.specs.MarkWeights.{is_hold}
use Rattle.sock_model.specs.SlotRows.{marks_of}
use Rattle.sock_model.specs.ChainRows.{ready_claim}
use Rattle.message_parts.specs.Parcels.{parcel_of}
use Rattle.sock_rule.specs.Shows.{heading_of}
use Rattle.sock_rule.specs.SendingOnRequestWords.{filled_for}
use Rattle.write_chain.proofs.Accepting.{may_swap, claims_b, was_queued, was_first}
use Rattle.write_chain.proofs.entry.accept.Goals as goal

pub put_msg-requires-clause-held : goal.put_msg-requires-clause-held
put_msg-requires-clause-held g c = (socket_id_version c.args.sock.id.0, (subst (λ (j : ℕ). 0 < marks_of (is_hold (socket_id_version c.args.sock.id.0)) j c.args.seat.now.me.0) (sym c.slot-slot.ensures) c.requires.held.held))

pub unconnect-requires-clause-claimed : goal.unconnect-requires-clause-claimed
unconnect-requires-clause-claimed g c = ((filled_for c.requires.claimed.0 c.put_msg.result (heading_of c.args.msg) (parcel_of c.args.msg.bytes).bytes), (ap (λ x. x.claims) (ap (λ m. m.0) (c.put_msg.ensures.view c.requires.claimed.0 (socket_id_version c.args.sock.id.0) c.requires.claimed.1 (subst (λ (j : ℕ). 0 < marks_of (is_hold (socket_id_version c.args.sock.id.0)) j c.args.seat.now.me.0) (sym c.slot-slot.ensures) c.requires.held.held)))), c.requires.claimed.2)

pub swap_head-step-requires-clause-may : goal.swap_head-step-requires-clause-may
swap_head-step-requires-clause-may g c = may_swap c.args.table.now.rule.plan c.args.seat.now.me.0 c.put_msg.new.seat.me.0 c.unconnect.new.seat.me.0 c.args.sock.id.0 c.slot-slot.result (socket_id_version c.args.sock.id.0) c.put_msg.result c.args.at c.pack-own.result.0 c.requires.claimed.0 (heading_of c.args.msg) (parcel_of c.args.msg.bytes).bytes c.slot-slot.ensures refl (omega (arith, c.if-prove.false)) (subst (λ (j : ℕ). 0 < marks_of (is_hold (socket_id_version c.args.sock.id.0)) j c.args.seat.now.me.0) (sym c.slot-slot.ensures) c.requires.held.held) c.requires.claimed.1 c.requires.claimed.2 c.requires.request c.requires.loose c.requires.rights c.requires.room c.put_msg.ensures.link (omega (arith, c.pack-own.ensures.word, c.requires.claimed.3)) (ap (λ m. m.0) (c.put_msg.ensures.view c.requires.claimed.0 (socket_id_version c.args.sock.id.0) c.requires.claimed.1 (subst (λ (j : ℕ). 0 < marks_of (is_hold (socket_id_version c.args.sock.id.0)) j c.args.seat.now.me.0) (sym c.slot-slot.ensures) c.requires.held.held))) (ap (λ m. m.0) (c.unconnect.ensures.view (filled_for c.requires.claimed.0 c.put_msg.result (heading_of c.args.msg) (parcel_of c.args.msg.bytes).bytes) (ap (λ x. x.claims) (ap (λ m. m.0) (c.put_msg.ensures.view c.requires.claimed.0 (socket_id_version c.args.sock.id.0) c.requires.claimed.1 (subst (λ (j : ℕ). 0 < marks_of (is_hold (socket_id_version c.args.sock.id.0)) j c.args.seat.now.me.0) (sym c.slot-slot.ensures) c.requires.held.held))))))

pub returns-then-found-ge-IDLE-clause-started : goal.returns-then-found-ge-IDLE-clause-started
returns-then-found-ge-IDLE-clause-started g c = let s = (c.swap_head-step.ensures.view (ready_claim (filled_for c.requires.claimed.0 c.put_msg.result (heading_of c.args.msg) (parcel_of c.args.msg.bytes).bytes)) (claims_b c.args.table.now.rule.plan c.args.seat.now.me.0 c.put_msg.new.seat.me.0 c.unconnect.new.seat.me.0 c.args.sock.id.0 c.slot-slot.result (socket_id_version c.args.sock.id.0) c.put_msg.result c.args.at c.pack-own.result.0 c.requires.claimed.0 (heading_of c.args.msg) (parcel_of c.args.msg.bytes).bytes c.slot-slot.ensures refl (omega (arith, c.if-prove.false)) (subst (λ (j : ℕ). 0 < marks_of (is_hold (socket_id_version c.args.sock.id.0)) j c.args.seat.now.me.0) (sym c.slot-slot.ensures) c.requires.held.held) c.requires.claimed.1 c.requires.claimed.2 c.requires.request c.requires.loose c.requires.rights c.requires.room c.put_msg.ensures.link (omega (arith, c.pack-own.ensures.word, c.requires.claimed.3)) (ap (λ m. m.0) (c.put_msg.ensures.view c.requires.claimed.0 (socket_id_version c.args.sock.id.0) c.requires.claimed.1 (subst (λ (j : ℕ). 0 < marks_of (is_hold (socket_id_version c.args.sock.id.0)) j c.args.seat.now.me.0) (sym c.slot-slot.ensures) c.requires.held.held))) (ap (λ m. m.0) (c.unconnect.ensures.view (filled_for c.requires.claimed.0 c.put_msg.result (heading_of c.args.msg) (parcel_of c.args.msg.bytes).bytes) (ap (λ x. x.claims) (ap (λ m. m.0) (c.put_msg.ensures.view c.requires.claimed.0 (socket_id_version c.args.sock.id.0) c.requires.claimed.1 (subst (λ (j : ℕ). 0 < marks_of (is_hold (socket_id_version c.args.sock.id.0)) j c.args.seat.now.me.0) (sym c.slot-slot.ensures) c.requires.held.held)))))))) in let r = s.2 (omega (arith, c.if-found-ge-IDLE.true)) in let f = was_first c.args.table.now.rule.plan c.args.seat.now.me.0 c.put_msg.new.seat.me.0 c.unconnect.new.seat.me.0 c.args.sock.id.0 c.slot-slot.result (socket_id_version c.args.sock.id.0) c.put_msg.result c.args.at c.pack-own.result.0 c.requires.claimed.0 (heading_of c.args.msg) (parcel_of c.args.msg.bytes).bytes c.slot-slot.ensures refl (omega (arith, c.if-prove.false)) (subst (λ (j : ℕ). 0 < marks_of (is_hold (socket_id_version c.args.sock.id.0)) j c.args.seat.now.me.0) (sym c.slot-slot.ensures) c.requires.held.held) c.requires.claimed.1 c.requires.claimed.2 c.requires.request c.requires.loose c.requires.rights c.requires.room c.put_msg.ensures.link (omega (arith, c.pack-own.ensures.word, c.requires.claimed.3)) (ap (λ m. m.0) (c.put_msg.ensures.view c.requires.claimed.0 (socket_id_version c.args.sock.id.0) c.requires.claimed.1 (subst (λ (j : ℕ). 0 < marks_of (is_hold (socket_id_version c.args.sock.id.0)) j c.args.seat.now.me.0) (sym c.slot-slot.ensures) c.requires.held.held))) (ap (λ m. m.0) (c.unconnect.ensures.view (filled_for c.requires.claimed.0 c.put_msg.result (heading_of c.args.msg) (parcel_of c.args.msg.bytes).bytes) (ap (λ x. x.claims) (ap (λ m. m.0) (c.put_msg.ensures.view c.requires.claimed.0 (socket_id_version c.args.sock.id.0) c.requires.claimed.1 (subst (λ (j : ℕ). 0 < marks_of (is_hold (socket_id_version c.args.sock.id.0)) j c.args.seat.now.me.0) (sym c.slot-slot.ensures) c.requires.held.held)))))) c.swap_head-step.result.found r.1 r.0 c.swap_head-step.new.seat.me.0 r.2 in let w = c.pack-own.ensures.word in let low = c.requires.request in (refl, refl, f.0, f.1, f.2, f.3, record { some_slot = omega (arith, w, c.requires.narrow); inside = omega (arith, w, c.requires.narrow, low); small = omega (arith, w, c.requires.generation, c.requires.narrow) })

pub returns-then-found-ge-IDLE-clause-slots : goal.returns-then-found-ge-IDLE-clause-slots
returns-then-found-ge-IDLE-clause-slots g c = (c.swap_head-step.ensures.view (ready_claim (filled_for c.requires.claimed.0 c.put_msg.result (heading_of c.args.msg) (parcel_of c.args.msg.bytes).bytes)) (claims_b c.args.table.now.rule.plan c.args.seat.now.me.0 c.put_msg.new.seat.me.0 c.unconnect.new.seat.me.0 c.args.sock.id.0 c.slot-slot.result (socket_id_version c.args.sock.id.0) c.put_msg.result c.args.at c.pack-own.result.0 c.requires.claimed.0 (heading_of c.args.msg) (parcel_of c.args.msg.bytes).bytes c.slot-slot.ensures refl (omega (arith, c.if-prove.false)) (subst (λ (j : ℕ). 0 < marks_of (is_hold (socket_id_version c.args.sock.id.0)) j c.args.seat.now.me.0) (sym c.slot-slot.ensures) c.requires.held.held) c.requires.claimed.1 c.requires.claimed.2 c.requires.request c.requires.loose c.requires.rights c.requires.room c.put_msg.ensures.link (omega (arith, c.pack-own.ensures.word, c.requires.claimed.3)) (ap (λ m. m.0) (c.put_msg.ensures.view c.requires.claimed.0 (socket_id_version c.args.sock.id.0) c.requires.claimed.1 (subst (λ (j : ℕ). 0 < marks_of (is_hold (socket_id_version c.args.sock.id.0)) j c.args.seat.now.me.0) (sym c.slot-slot.ensures) c.requires.held.held))) (ap (λ m. m.0) (c.unconnect.ensures.view (filled_for c.requires.claimed.0 c.put_msg.result (heading_of c.args.msg) (parcel_of c.args.msg.bytes).bytes) (ap (λ x. x.claims) (ap (λ m. m.0) (c.put_msg.ensures.view c.requires.claimed.0 (socket_id_version c.args.sock.id.0) c.requires.claimed.1 (subst (λ (j : ℕ). 0 < marks_of (is_hold (socket_id_version c.args.sock.id.0)) j c.args.seat.now.me.0) (sym c.slot-slot.ensures) c.requires.held.held)))))))).0 ∙ (ap (λ m. m.1) (c.unconnect.ensures.view (filled_for c.requires.claimed.0 c.put_msg.result (heading_of c.args.msg) (parcel_of c.args.msg.bytes).bytes) (ap (λ x. x.claims) (ap (λ m. m.0) (c.put_msg.ensures.view c.requires.claimed.0 (socket_id_version c.args.sock.id.0) c.requires.claimed.1 (subst (λ (j : ℕ). 0 < marks_of (is_hold (socket_id_version c.args.sock.id.0)) j c.args.seat.now.me.0) (sym c.slot-slot.ensures) c.requires.held.held))))) ∙ ap (λ m. m.1) (c.put_msg.ensures.view c.requires.claimed.0 (socket_id_version c.args.sock.id.0) c.requires.claimed.1 (subst (λ (j : ℕ). 0 < marks_of (is_hold (socket_id_version c.args.sock.id.0)) j c.args.seat.now.me.0) (sym c.slot-slot.ensures) c.requires.held.held)))

pub connect-requires-clause-loose : goal.connect-requires-clause-loose
connect-requires-clause-loose g c = let s = (c.swap_head-step.ensures.view (ready_claim (filled_for c.requires.claimed.0 c.put_msg.result (heading_of c.args.msg) (parcel_of c.args.msg.bytes).bytes)) (claims_b c.args.table.now.rule.plan c.args.seat.now.me.0 c.put_msg.new.seat.me.0 c.unconnect.new.seat.me.0 c.args.sock.id.0 c.slot-slot.result (socket_id_version c.args.sock.id.0) c.put_msg.result c.args.at c.pack-own.result.0 c.requires.claimed.0 (heading_of c.args.msg) (parcel_of c.args.msg.bytes).bytes c.slot-slot.ensures refl (omega (arith, c.if-prove.false)) (subst (λ (j : ℕ). 0 < marks_of (is_hold (socket_id_version c.args.sock.id.0)) j c.args.seat.now.me.0) (sym c.slot-slot.ensures) c.requires.held.held) c.requires.claimed.1 c.requires.claimed.2 c.requires.request c.requires.loose c.requires.rights c.requires.room c.put_msg.ensures.link (omega (arith, c.pack-own.ensures.word, c.requires.claimed.3)) (ap (λ m. m.0) (c.put_msg.ensures.view c.requires.claimed.0 (socket_id_version c.args.sock.id.0) c.requires.claimed.1 (subst (λ (j : ℕ). 0 < marks_of (is_hold (socket_id_version c.args.sock.id.0)) j c.args.seat.now.me.0) (sym c.slot-slot.ensures) c.requires.held.held))) (ap (λ m. m.0) (c.unconnect.ensures.view (filled_for c.requires.claimed.0 c.put_msg.result (heading_of c.args.msg) (parcel_of c.args.msg.bytes).bytes) (ap (λ x. x.claims) (ap (λ m. m.0) (c.put_msg.ensures.view c.requires.claimed.0 (socket_id_version c.args.sock.id.0) c.requires.claimed.1 (subst (λ (j : ℕ). 0 < marks_of (is_hold (socket_id_version c.args.sock.id.0)) j c.args.seat.now.me.0) (sym c.slot-slot.ensures) c.requires.held.held)))))))) in let w = s.1 (omega (arith, c.if-found-ge-IDLE.false)) in (0, record { request = c.requires.claimed.0.request; before = c.swap_head-step.result.found }, ap (λ y. lib.ListN.get_elem? y.loose 0) w, c.requires.claimed.2, refl)

pub returns-clause-started : goal.returns-clause-started
returns-clause-started g c = let s = (c.swap_head-step.ensures.view (ready_claim (filled_for c.requires.claimed.0 c.put_msg.result (heading_of c.args.msg) (parcel_of c.args.msg.bytes).bytes)) (claims_b c.args.table.now.rule.plan c.args.seat.now.me.0 c.put_msg.new.seat.me.0 c.unconnect.new.seat.me.0 c.args.sock.id.0 c.slot-slot.result (socket_id_version c.args.sock.id.0) c.put_msg.result c.args.at c.pack-own.result.0 c.requires.claimed.0 (heading_of c.args.msg) (parcel_of c.args.msg.bytes).bytes c.slot-slot.ensures refl (omega (arith, c.if-prove.false)) (subst (λ (j : ℕ). 0 < marks_of (is_hold (socket_id_version c.args.sock.id.0)) j c.args.seat.now.me.0) (sym c.slot-slot.ensures) c.requires.held.held) c.requires.claimed.1 c.requires.claimed.2 c.requires.request c.requires.loose c.requires.rights c.requires.room c.put_msg.ensures.link (omega (arith, c.pack-own.ensures.word, c.requires.claimed.3)) (ap (λ m. m.0) (c.put_msg.ensures.view c.requires.claimed.0 (socket_id_version c.args.sock.id.0) c.requires.claimed.1 (subst (λ (j : ℕ). 0 < marks_of (is_hold (socket_id_version c.args.sock.id.0)) j c.args.seat.now.me.0) (sym c.slot-slot.ensures) c.requires.held.held))) (ap (λ m. m.0) (c.unconnect.ensures.view (filled_for c.requires.claimed.0 c.put_msg.result (heading_of c.args.msg) (parcel_of c.args.msg.bytes).bytes) (ap (λ x. x.claims) (ap (λ m. m.0) (c.put_msg.ensures.view c.requires.claimed.0 (socket_id_version c.args.sock.id.0) c.requires.claimed.1 (subst (λ (j : ℕ). 0 < marks_of (is_hold (socket_id_version c.args.sock.id.0)) j c.args.seat.now.me.0) (sym c.slot-slot.ensures) c.requires.held.held)))))))) in let w = s.1 (omega (arith, c.if-found-ge-IDLE.false)) in let f = was_queued c.args.table.now.rule.plan c.args.seat.now.me.0 c.put_msg.new.seat.me.0 c.unconnect.new.seat.me.0 c.args.sock.id.0 c.slot-slot.result (socket_id_version c.args.sock.id.0) c.put_msg.result c.args.at c.pack-own.result.0 c.requires.claimed.0 (heading_of c.args.msg) (parcel_of c.args.msg.bytes).bytes c.slot-slot.ensures refl (omega (arith, c.if-prove.false)) (subst (λ (j : ℕ). 0 < marks_of (is_hold (socket_id_version c.args.sock.id.0)) j c.args.seat.now.me.0) (sym c.slot-slot.ensures) c.requires.held.held) c.requires.claimed.1 c.requires.claimed.2 c.requires.request c.requires.loose c.requires.rights c.requires.room c.put_msg.ensures.link (omega (arith, c.pack-own.ensures.word, c.requires.claimed.3)) (ap (λ m. m.0) (c.put_msg.ensures.view c.requires.claimed.0 (socket_id_version c.args.sock.id.0) c.requires.claimed.1 (subst (λ (j : ℕ). 0 < marks_of (is_hold (socket_id_version c.args.sock.id.0)) j c.args.seat.now.me.0) (sym c.slot-slot.ensures) c.requires.held.held))) (ap (λ m. m.0) (c.unconnect.ensures.view (filled_for c.requires.claimed.0 c.put_msg.result (heading_of c.args.msg) (parcel_of c.args.msg.bytes).bytes) (ap (λ x. x.claims) (ap (λ m. m.0) (c.put_msg.ensures.view c.requires.claimed.0 (socket_id_version c.args.sock.id.0) c.requires.claimed.1 (subst (λ (j : ℕ). 0 < marks_of (is_hold (socket_id_version c.args.sock.id.0)) j c.args.seat.now.me.0) (sym c.slot-slot.ensures) c.requires.held.held)))))) c.swap_head-step.result.found c.swap_head-step.new.seat.me.0 c.connect.new.seat.me.0 w (ap (λ m. m.0) c.connect.ensures.view) in (refl, f.0, f.1)

pub returns-clause-slots : goal.returns-clause-slots
returns-clause-slots g c = ap (λ m. m.1) c.connect.ensures.view ∙ ((c.swap_head-step.ensures.view (ready_claim (filled_for c.requires.claimed.0 c.put_msg.result (heading_of c.args.msg) (parcel_of c.args.msg.bytes).bytes)) (claims_b c.args.table.now.rule.plan c.args.seat.now.me.0 c.put_msg.new.seat.me.0 c.unconnect.new.seat.me.0 c.args.sock.id.0 c.slot-slot.result (socket_id_version c.args.sock.id.0) c.put_msg.result c.args.at c.pack-own.result.0 c.requires.claimed.0 (heading_of c.args.msg) (parcel_of c.args.msg.bytes).bytes c.slot-slot.ensures refl (omega (arith, c.if-prove.false)) (subst (λ (j : ℕ). 0 < marks_of (is_hold (socket_id_version c.args.sock.id.0)) j c.args.seat.now.me.0) (sym c.slot-slot.ensures) c.requires.held.held) c.requires.claimed.1 c.requires.claimed.2 c.requires.request c.requires.loose c.requires.rights c.requires.room c.put_msg.ensures.link (omega (arith, c.pack-own.ensures.word, c.requires.claimed.3)) (ap (λ m. m.0) (c.put_msg.ensures.view c.requires.claimed.0 (socket_id_version c.args.sock.id.0) c.requires.claimed.1 (subst (λ (j : ℕ). 0 < marks_of (is_hold (socket_id_version c.args.sock.id.0)) j c.args.seat.now.me.0) (sym c.slot-slot.ensures) c.requires.held.held))) (ap (λ m. m.0) (c.unconnect.ensures.view (filled_for c.requires.claimed.0 c.put_msg.result (heading_of c.args.msg) (parcel_of c.args.msg.bytes).bytes) (ap (λ x. x.claims) (ap (λ m. m.0) (c.put_msg.ensures.view c.requires.claimed.0 (socket_id_version c.args.sock.id.0) c.requires.claimed.1 (subst (λ (j : ℕ). 0 < marks_of (is_hold (socket_id_version c.args.sock.id.0)) j c.args.seat.now.me.0) (sym c.slot-slot.ensures) c.requires.held.held)))))))).0 ∙ (ap (λ m. m.1) (c.unconnect.ensures.view (filled_for c.requires.claimed.0 c.put_msg.result (heading_of c.args.msg) (parcel_of c.args.msg.bytes).bytes) (ap (λ x. x.claims) (ap (λ m. m.0) (c.put_msg.ensures.view c.requires.claimed.0 (socket_id_version c.args.sock.id.0) c.requires.claimed.1 (subst (λ (j : ℕ). 0 < marks_of (is_hold (socket_id_version c.args.sock.id.0)) j c.args.seat.now.me.0) (sym c.slot-slot.ensures) c.requires.held.held))))) ∙ ap (λ m. m.1) (c.put_msg.ensures.view c.requires.claimed.0 (socket_id_version c.args.sock.id.0) c.requires.claimed.1 (subst (λ (j : ℕ). 0 < marks_of (is_hold (socket_id_version c.args.sock.id.0)) j c.args.seat.now.me.0) (sym c.slot-slot.ensures) c.requires.held.held))))
