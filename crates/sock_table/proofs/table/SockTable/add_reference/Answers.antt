use Rattle.std.proofs.Common.{ℕ, ◌<◌, arith, refl, sym, ap, ◌∙◌, subst}
use Rattle.sock_model.specs.SlotRows.{marks_of}
use Rattle.sock_model.specs.MarkWeights.{is_known}
use Rattle.sock_words.specs.PackedWords.{socket_id_version}
use Rattle.sock_table.proofs.Addressing.{is_held, may_go, is_gone, none_later}
use Rattle.sock_table.proofs.GivingReferenceBack.{no_rights}
use Rattle.sock_table.proofs.QuietBetweenCalls.{held_between, gone_between}
use Rattle.sock_table.proofs.table.SockTable.add_reference.Goals as goal

pub returns-then-version-clause-held : goal.returns-then-version-clause-held
returns-then-version-clause-held g c = let e = c.slot-slot.ensures in (
  refl,
  is_held c.slot-slot.result c.add_ref-step.result.found c.args.id.0 c.args.seat.now.me.0 c.add_ref-step.new.seat.me.0 (ap (λ m. m.0) c.add_ref-step.ensures.view) e
      (subst (λ (j : ℕ). 0 < marks_of (is_known (socket_id_version c.args.id.0)) j c.args.seat.now.me.0) (sym e) c.requires.may.known)
      (sym c.version.ensures ∙ (c.if-version.true ∙ c.version-2.ensures)),
)

pub give_back-requires-clause-some : goal.give_back-requires-clause-some
give_back-requires-clause-some g c = let e = c.slot-slot.ensures in
    let m = may_go c.slot-slot.result c.add_ref-step.result.found c.args.id.0 c.args.seat.now.me.0 c.add_ref-step.new.seat.me.0 (ap (λ m. m.0) c.add_ref-step.ensures.view) e (c.requires.between.unprobed c.slot-slot.result (omega (arith, c.if-prove.false))) in (m.0, m.1)

pub returns-clause-gone : goal.returns-clause-gone
returns-clause-gone g c = let e = c.slot-slot.ensures in let v = ap (λ m. m.0) c.add_ref-step.ensures.view in
    let m = may_go c.slot-slot.result c.add_ref-step.result.found c.args.id.0 c.args.seat.now.me.0 c.add_ref-step.new.seat.me.0 v e (c.requires.between.unprobed c.slot-slot.result (omega (arith, c.if-prove.false))) in
    let known = subst (λ (j : ℕ). 0 < marks_of (is_known (socket_id_version c.args.id.0)) j c.args.seat.now.me.0) (sym e) c.requires.may.known in
    is_gone c.slot-slot.result c.add_ref-step.result.found c.args.id.0 c.args.seat.now.me.0 c.add_ref-step.new.seat.me.0 v e c.give_back.new.seat.me.0 c.give_back.result m.0 m.2 (c.give_back.ensures.back m.0 m.1) c.add_ref-step.result.found refl
    (omega (arith, c.add_ref-step.ensures.fits.known (socket_id_version c.args.id.0) known, c.if-version.false, c.version.ensures, c.version-2.ensures))

pub returns-then-version-clause-between : goal.returns-then-version-clause-between
returns-then-version-clause-between g c = held_between c.args.self.now.rule.plan c.args.id.0 c.args.seat.now.me.0 c.add_ref-step.new.seat.me.0 c.requires.between ((returns-then-version-clause-held g c).1)

pub returns-clause-between : goal.returns-clause-between
returns-clause-between g c = gone_between c.args.self.now.rule.plan c.args.id.0 c.add_ref-step.result.found c.args.seat.now.me.0 c.give_back.new.seat.me.0 c.requires.between (returns-clause-gone g c)

pub give_back-requires-clause-rights : goal.give_back-requires-clause-rights
give_back-requires-clause-rights g c = no_rights c.slot-slot.result c.add_ref-step.new.seat.me.0 (ap (λ m. m.0.rights) c.add_ref-step.ensures.view ∙ c.requires.between.no_rights)

pub returns-then-version-clause-stays : goal.returns-then-version-clause-stays
returns-then-version-clause-stays g c = none_later c.slot-slot.result c.add_ref-step.result.found c.args.id.0 c.args.seat.now.me.0 c.slot-slot.ensures c.add_ref-step.ensures.fits.saw (sym c.version.ensures ∙ (c.if-version.true ∙ c.version-2.ensures))
