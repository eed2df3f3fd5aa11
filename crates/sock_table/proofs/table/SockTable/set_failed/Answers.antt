use Rattle.std.proofs.Common.{ℕ, ◌<◌, arith, refl, sym, ap, ◌∙◌, subst}
use Rattle.sock_model.specs.declared.marks.Mark.TheVariants.{Hold}
use Rattle.sock_model.specs.SlotRows.{marks_of}
use Rattle.sock_model.specs.MarkWeights.{is_hold}
use Rattle.sock_words.specs.PackedWords.{socket_id_version}
use Rattle.sock_table.proofs.QuietBetweenCalls.{failed_rests, saw_rests}
use Rattle.sock_table.proofs.StepsFailingLife.{found_failed, coding_now, hold_now, uncoding_now, keeps_rights, empty_now, is_failed}
use Rattle.sock_table.proofs.Addressing.{none_later}
use Rattle.sock_table.proofs.table.SockTable.set_failed.Goals as goal

pub set_odd-step-requires-clause-held : goal.set_odd-step-requires-clause-held
set_odd-step-requires-clause-held g c = (socket_id_version c.args.sock.now.id.0, (subst (λ (j : ℕ). 0 < marks_of (is_hold (socket_id_version c.args.sock.now.id.0)) j c.args.seat.now.me.0) (sym c.slot-slot.ensures) c.requires.held.held))

pub returns-then-version-clause-err : goal.returns-then-version-clause-err
returns-then-version-clause-err g c = found_failed c.args.self.now.rule.plan c.slot-slot.result c.set_odd-step.result.found c.args.sock.now.id.0 c.args.seat.now.me.0 c.set_odd-step.new.seat.me.0 (ap (λ m. m.0) c.set_odd-step.ensures.view) (omega (arith, c.if-prove.false)) c.slot-slot.ensures c.requires.rests (subst (λ (j : ℕ). 0 < marks_of (is_hold (socket_id_version c.args.sock.now.id.0)) j c.args.seat.now.me.0) (sym c.slot-slot.ensures) c.requires.held.held) c.set_odd-step.ensures.fits.held c.set_odd-step.result.found refl (λ e. c.if-version.true (c.version.ensures ∙ (e ∙ sym c.version-2.ensures)))

pub returns-then-version-clause-rests : goal.returns-then-version-clause-rests
returns-then-version-clause-rests g c = saw_rests c.args.self.now.rule.plan _ _ c.args.seat.now.me.0 c.set_odd-step.new.seat.me.0 c.requires.rests ((returns-then-version-clause-err g c).1)

pub store_code-requires-clause-coding : goal.store_code-requires-clause-coding
store_code-requires-clause-coding g c = (socket_id_version c.args.sock.now.id.0, coding_now c.args.self.now.rule.plan c.slot-slot.result c.set_odd-step.result.found c.args.sock.now.id.0 c.args.seat.now.me.0 c.set_odd-step.new.seat.me.0 (ap (λ m. m.0) c.set_odd-step.ensures.view) (omega (arith, c.if-prove.false)) c.slot-slot.ensures c.requires.rests (subst (λ (j : ℕ). 0 < marks_of (is_hold (socket_id_version c.args.sock.now.id.0)) j c.args.seat.now.me.0) (sym c.slot-slot.ensures) c.requires.held.held) c.set_odd-step.ensures.fits.held (sym c.version.ensures ∙ (c.if-version.false ∙ c.version-2.ensures)))

pub give_back-requires-clause-some : goal.give_back-requires-clause-some
give_back-requires-clause-some g c = let live = (sym c.version.ensures ∙ (c.if-version.false ∙ c.version-2.ensures)) in let coding = coding_now c.args.self.now.rule.plan c.slot-slot.result c.set_odd-step.result.found c.args.sock.now.id.0 c.args.seat.now.me.0 c.set_odd-step.new.seat.me.0 (ap (λ m. m.0) c.set_odd-step.ensures.view) (omega (arith, c.if-prove.false)) c.slot-slot.ensures c.requires.rests (subst (λ (j : ℕ). 0 < marks_of (is_hold (socket_id_version c.args.sock.now.id.0)) j c.args.seat.now.me.0) (sym c.slot-slot.ensures) c.requires.held.held) c.set_odd-step.ensures.fits.held live in (Hold (socket_id_version c.args.sock.now.id.0), hold_now c.args.self.now.rule.plan c.slot-slot.result c.set_odd-step.result.found c.args.sock.now.id.0 c.args.seat.now.me.0 c.set_odd-step.new.seat.me.0 (ap (λ m. m.0) c.set_odd-step.ensures.view) (omega (arith, c.if-prove.false)) c.slot-slot.ensures c.requires.rests (subst (λ (j : ℕ). 0 < marks_of (is_hold (socket_id_version c.args.sock.now.id.0)) j c.args.seat.now.me.0) (sym c.slot-slot.ensures) c.requires.held.held) c.set_odd-step.ensures.fits.held live c.args.code c.store_code.new.seat.me.0 (ap (λ m. m.0) (c.store_code.ensures.view (socket_id_version c.args.sock.now.id.0) coding)))

pub give_back-requires-clause-coded : goal.give_back-requires-clause-coded
give_back-requires-clause-coded g c = let live = (sym c.version.ensures ∙ (c.if-version.false ∙ c.version-2.ensures)) in let coding = coding_now c.args.self.now.rule.plan c.slot-slot.result c.set_odd-step.result.found c.args.sock.now.id.0 c.args.seat.now.me.0 c.set_odd-step.new.seat.me.0 (ap (λ m. m.0) c.set_odd-step.ensures.view) (omega (arith, c.if-prove.false)) c.slot-slot.ensures c.requires.rests (subst (λ (j : ℕ). 0 < marks_of (is_hold (socket_id_version c.args.sock.now.id.0)) j c.args.seat.now.me.0) (sym c.slot-slot.ensures) c.requires.held.held) c.set_odd-step.ensures.fits.held live in uncoding_now c.args.self.now.rule.plan c.slot-slot.result c.set_odd-step.result.found c.args.sock.now.id.0 c.args.seat.now.me.0 c.set_odd-step.new.seat.me.0 (ap (λ m. m.0) c.set_odd-step.ensures.view) (omega (arith, c.if-prove.false)) c.slot-slot.ensures c.requires.rests (subst (λ (j : ℕ). 0 < marks_of (is_hold (socket_id_version c.args.sock.now.id.0)) j c.args.seat.now.me.0) (sym c.slot-slot.ensures) c.requires.held.held) c.set_odd-step.ensures.fits.held live c.args.code c.store_code.new.seat.me.0 (ap (λ m. m.0) (c.store_code.ensures.view (socket_id_version c.args.sock.now.id.0) coding))

pub give_back-requires-clause-rights : goal.give_back-requires-clause-rights
give_back-requires-clause-rights g c = let live = (sym c.version.ensures ∙ (c.if-version.false ∙ c.version-2.ensures)) in let coding = coding_now c.args.self.now.rule.plan c.slot-slot.result c.set_odd-step.result.found c.args.sock.now.id.0 c.args.seat.now.me.0 c.set_odd-step.new.seat.me.0 (ap (λ m. m.0) c.set_odd-step.ensures.view) (omega (arith, c.if-prove.false)) c.slot-slot.ensures c.requires.rests (subst (λ (j : ℕ). 0 < marks_of (is_hold (socket_id_version c.args.sock.now.id.0)) j c.args.seat.now.me.0) (sym c.slot-slot.ensures) c.requires.held.held) c.set_odd-step.ensures.fits.held live in (keeps_rights c.args.self.now.rule.plan c.slot-slot.result c.set_odd-step.result.found c.args.sock.now.id.0 c.args.seat.now.me.0 c.set_odd-step.new.seat.me.0 (ap (λ m. m.0) c.set_odd-step.ensures.view) (omega (arith, c.if-prove.false)) c.slot-slot.ensures c.requires.rests (subst (λ (j : ℕ). 0 < marks_of (is_hold (socket_id_version c.args.sock.now.id.0)) j c.args.seat.now.me.0) (sym c.slot-slot.ensures) c.requires.held.held) c.set_odd-step.ensures.fits.held live c.args.code c.store_code.new.seat.me.0 (ap (λ m. m.0) (c.store_code.ensures.view (socket_id_version c.args.sock.now.id.0) coding)))

pub give_back-requires-clause-empty : goal.give_back-requires-clause-empty
give_back-requires-clause-empty g c = let live = (sym c.version.ensures ∙ (c.if-version.false ∙ c.version-2.ensures)) in let coding = coding_now c.args.self.now.rule.plan c.slot-slot.result c.set_odd-step.result.found c.args.sock.now.id.0 c.args.seat.now.me.0 c.set_odd-step.new.seat.me.0 (ap (λ m. m.0) c.set_odd-step.ensures.view) (omega (arith, c.if-prove.false)) c.slot-slot.ensures c.requires.rests (subst (λ (j : ℕ). 0 < marks_of (is_hold (socket_id_version c.args.sock.now.id.0)) j c.args.seat.now.me.0) (sym c.slot-slot.ensures) c.requires.held.held) c.set_odd-step.ensures.fits.held live in empty_now c.args.self.now.rule.plan c.slot-slot.result c.set_odd-step.result.found c.args.sock.now.id.0 c.args.seat.now.me.0 c.set_odd-step.new.seat.me.0 (ap (λ m. m.0) c.set_odd-step.ensures.view) (omega (arith, c.if-prove.false)) c.slot-slot.ensures c.requires.rests (subst (λ (j : ℕ). 0 < marks_of (is_hold (socket_id_version c.args.sock.now.id.0)) j c.args.seat.now.me.0) (sym c.slot-slot.ensures) c.requires.held.held) c.set_odd-step.ensures.fits.held live c.args.code c.store_code.new.seat.me.0 (ap (λ m. m.0) (c.store_code.ensures.view (socket_id_version c.args.sock.now.id.0) coding))

pub returns-clause-ok : goal.returns-clause-ok
returns-clause-ok g c = let live = (sym c.version.ensures ∙ (c.if-version.false ∙ c.version-2.ensures)) in let coding = coding_now c.args.self.now.rule.plan c.slot-slot.result c.set_odd-step.result.found c.args.sock.now.id.0 c.args.seat.now.me.0 c.set_odd-step.new.seat.me.0 (ap (λ m. m.0) c.set_odd-step.ensures.view) (omega (arith, c.if-prove.false)) c.slot-slot.ensures c.requires.rests (subst (λ (j : ℕ). 0 < marks_of (is_hold (socket_id_version c.args.sock.now.id.0)) j c.args.seat.now.me.0) (sym c.slot-slot.ensures) c.requires.held.held) c.set_odd-step.ensures.fits.held live in is_failed c.args.self.now.rule.plan c.slot-slot.result c.set_odd-step.result.found c.args.sock.now.id.0 c.args.seat.now.me.0 c.set_odd-step.new.seat.me.0 (ap (λ m. m.0) c.set_odd-step.ensures.view) (omega (arith, c.if-prove.false)) c.slot-slot.ensures c.requires.rests (subst (λ (j : ℕ). 0 < marks_of (is_hold (socket_id_version c.args.sock.now.id.0)) j c.args.seat.now.me.0) (sym c.slot-slot.ensures) c.requires.held.held) c.set_odd-step.ensures.fits.held live c.args.code c.store_code.new.seat.me.0 (ap (λ m. m.0) (c.store_code.ensures.view (socket_id_version c.args.sock.now.id.0) coding)) c.give_back.new.seat.me.0 c.give_back.result c.give_back.ensures.kept (c.give_back.ensures.back _ (hold_now c.args.self.now.rule.plan c.slot-slot.result c.set_odd-step.result.found c.args.sock.now.id.0 c.args.seat.now.me.0 c.set_odd-step.new.seat.me.0 (ap (λ m. m.0) c.set_odd-step.ensures.view) (omega (arith, c.if-prove.false)) c.slot-slot.ensures c.requires.rests (subst (λ (j : ℕ). 0 < marks_of (is_hold (socket_id_version c.args.sock.now.id.0)) j c.args.seat.now.me.0) (sym c.slot-slot.ensures) c.requires.held.held) c.set_odd-step.ensures.fits.held live c.args.code c.store_code.new.seat.me.0 (ap (λ m. m.0) (c.store_code.ensures.view (socket_id_version c.args.sock.now.id.0) coding))))

pub returns-clause-rests : goal.returns-clause-rests
returns-clause-rests g c = failed_rests c.args.self.now.rule.plan c.args.sock.now.id.0 c.args.code c.args.seat.now.me.0 c.give_back.new.seat.me.0 c.requires.rests (returns-clause-ok g c)

pub returns-clause-slots : goal.returns-clause-slots
returns-clause-slots g c = let live = (sym c.version.ensures ∙ (c.if-version.false ∙ c.version-2.ensures)) in let coding = coding_now c.args.self.now.rule.plan c.slot-slot.result c.set_odd-step.result.found c.args.sock.now.id.0 c.args.seat.now.me.0 c.set_odd-step.new.seat.me.0 (ap (λ m. m.0) c.set_odd-step.ensures.view) (omega (arith, c.if-prove.false)) c.slot-slot.ensures c.requires.rests (subst (λ (j : ℕ). 0 < marks_of (is_hold (socket_id_version c.args.sock.now.id.0)) j c.args.seat.now.me.0) (sym c.slot-slot.ensures) c.requires.held.held) c.set_odd-step.ensures.fits.held live in c.give_back.ensures.slots ∙ (ap (λ m. m.1) (c.store_code.ensures.view (socket_id_version c.args.sock.now.id.0) coding) ∙ ap (λ m. m.1) c.set_odd-step.ensures.view)

pub returns-clause-stays : goal.returns-clause-stays
returns-clause-stays g c = none_later c.slot-slot.result c.set_odd-step.result.found c.args.sock.now.id.0 c.args.seat.now.me.0 c.slot-slot.ensures c.set_odd-step.ensures.fits.saw (sym c.version.ensures ∙ (c.if-version.false ∙ c.version-2.ensures))

pub returns-then-version-clause-rights : goal.returns-then-version-clause-rights
returns-then-version-clause-rights g c = ap (λ v. v.rights) (returns-then-version-clause-err g c).1.others

pub returns-clause-rights : goal.returns-clause-rights
returns-clause-rights g c = ap (λ v. v.rights) (returns-clause-ok g c).others
