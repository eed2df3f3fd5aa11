use Rattle.std.proofs.Common.{ℕ, ◌<◌, true, false, arith, sym, subst}
use Rattle.sock_model.specs.declared.marks.Mark.TheVariants.{Hold}
use Rattle.sock_model.specs.SlotRows.{marks_of}
use Rattle.sock_model.specs.MarkWeights.{is_hold}
use Rattle.sock_words.specs.PackedWords.{socket_id_version}
use Rattle.sock_rule.specs.MarksComeAndGo.{hold_goes}
use Rattle.sock_table.specs.ReferenceCalls.{GaveBack}
use Rattle.sock_table.proofs.GivingReferenceBack.{no_rights}
use Rattle.sock_table.proofs.QuietBetweenCalls.{back_between}
use Rattle.sock_table.proofs.table.SockTable.release.Goals as goal

pub give_back-requires-clause-some : goal.give_back-requires-clause-some
give_back-requires-clause-some g c = let h = socket_id_version c.args.sock.id.0 in (
  Hold h,
  hold_goes h (c.requires.between.unprobed c.slot-slot.result (omega (arith, c.if-prove.false)))
      (subst (λ (j : ℕ). 0 < marks_of (is_hold (socket_id_version c.args.sock.id.0)) j c.args.seat.now.me.0) (sym c.slot-slot.ensures) c.requires.held.held),
)

pub returns-then-give_back-clause-back : goal.returns-then-give_back-clause-back
returns-then-give_back-clause-back g c = let h = socket_id_version c.args.sock.id.0 in
    let back = c.give_back.ensures.back (Hold h) (hold_goes h (c.requires.between.unprobed c.slot-slot.result (omega (arith, c.if-prove.false))) (subst (λ (j : ℕ). 0 < marks_of (is_hold (socket_id_version c.args.sock.id.0)) j c.args.seat.now.me.0) (sym c.slot-slot.ensures) c.requires.held.held)) in
    subst (λ j. GaveBack j c.args.seat.now.me.0 c.give_back.new.seat.me.0 (Hold (socket_id_version c.args.sock.id.0)) true) c.slot-slot.ensures (subst (λ b. GaveBack c.slot-slot.result c.args.seat.now.me.0 c.give_back.new.seat.me.0 (Hold (socket_id_version c.args.sock.id.0)) b) c.if-give_back.true back)

pub returns-else-give_back-clause-back : goal.returns-else-give_back-clause-back
returns-else-give_back-clause-back g c = let h = socket_id_version c.args.sock.id.0 in
    let back = c.give_back.ensures.back (Hold h) (hold_goes h (c.requires.between.unprobed c.slot-slot.result (omega (arith, c.if-prove.false))) (subst (λ (j : ℕ). 0 < marks_of (is_hold (socket_id_version c.args.sock.id.0)) j c.args.seat.now.me.0) (sym c.slot-slot.ensures) c.requires.held.held)) in
    subst (λ j. GaveBack j c.args.seat.now.me.0 c.give_back.new.seat.me.0 (Hold (socket_id_version c.args.sock.id.0)) false) c.slot-slot.ensures (subst (λ b. GaveBack c.slot-slot.result c.args.seat.now.me.0 c.give_back.new.seat.me.0 (Hold (socket_id_version c.args.sock.id.0)) b) c.if-give_back.false back)

pub returns-then-give_back-clause-between : goal.returns-then-give_back-clause-between
returns-then-give_back-clause-between g c = back_between c.args.self.now.rule.plan _ c.args.seat.now.me.0 c.give_back.new.seat.me.0 _ _ c.requires.between (returns-then-give_back-clause-back g c)

pub returns-else-give_back-clause-between : goal.returns-else-give_back-clause-between
returns-else-give_back-clause-between g c = back_between c.args.self.now.rule.plan _ c.args.seat.now.me.0 c.give_back.new.seat.me.0 _ _ c.requires.between (returns-else-give_back-clause-back g c)

pub give_back-requires-clause-rights : goal.give_back-requires-clause-rights
give_back-requires-clause-rights g c = no_rights c.slot-slot.result c.args.seat.now.me.0 c.requires.between.no_rights
