use Rattle.std.proofs.Common.{ℕ, ◌<◌, [], ◌∷◌, arith, sym, ap, ◌∙◌, subst}
use Rattle.sock_model.specs.declared.marks.Mark.TheVariants.{Saw}
use Rattle.sock_model.specs.SlotRows.{marks_of}
use Rattle.sock_model.specs.MarkWeights.{is_hold}
use Rattle.sock_words.specs.PackedWords.{socket_id_version, vref_version}
use Rattle.sock_rule.specs.MarksComeAndGo.{Became}
use Rattle.sock_rule.proofs.MarksComeAndGo.{becomes, looked_marks}
use Rattle.sock_table.proofs.QuietBetweenCalls.{saw_between}
use Rattle.sock_table.proofs.Addressing.{none_later}
use Rattle.sock_table.proofs.table.SockTable.look.Goals as goal

pub returns-then-version-clause-live : goal.returns-then-version-clause-live
returns-then-version-clause-live g c = subst (λ (j : ℕ). Became j c.args.seat.now.me.0 c.look_word-step.new.seat.me.0 (Saw (socket_id_version c.args.sock.now.id.0) ∷ []) []) c.slot-slot.ensures
    (subst (λ (w : ℕ). Became c.slot-slot.result c.args.seat.now.me.0 c.look_word-step.new.seat.me.0 (Saw w ∷ []) []) (sym c.version.ensures ∙ (c.if-version.true ∙ c.version-2.ensures))
    (becomes c.slot-slot.result (ap (λ m. m.0) c.look_word-step.ensures.view) (looked_marks c.slot-slot.result c.look_word-step.result.found c.args.seat.now.me.0)))

pub returns-else-version-clause-live : goal.returns-else-version-clause-live
returns-else-version-clause-live g c = (
  omega (
    arith,
    c.look_word-step.ensures.fits.held (socket_id_version c.args.sock.now.id.0) (subst (λ (j : ℕ). 0 < marks_of (is_hold (socket_id_version c.args.sock.now.id.0)) j c.args.seat.now.me.0) (sym c.slot-slot.ensures) c.requires.held.held),
    c.if-version.false,
    c.version.ensures,
    c.version-2.ensures,
  ),
  subst (λ (j : ℕ). Became j c.args.seat.now.me.0 c.look_word-step.new.seat.me.0 (Saw (vref_version c.look_word-step.result.found) ∷ []) []) c.slot-slot.ensures
      (becomes c.slot-slot.result (ap (λ m. m.0) c.look_word-step.ensures.view) (looked_marks c.slot-slot.result c.look_word-step.result.found c.args.seat.now.me.0)),
)

pub returns-then-version-clause-between : goal.returns-then-version-clause-between
returns-then-version-clause-between g c = saw_between c.args.self.now.rule.plan _ _ c.args.seat.now.me.0 c.look_word-step.new.seat.me.0 c.requires.between (returns-then-version-clause-live g c)

pub returns-else-version-clause-between : goal.returns-else-version-clause-between
returns-else-version-clause-between g c = saw_between c.args.self.now.rule.plan _ _ c.args.seat.now.me.0 c.look_word-step.new.seat.me.0 c.requires.between ((returns-else-version-clause-live g c).1)

pub returns-then-version-clause-stays : goal.returns-then-version-clause-stays
returns-then-version-clause-stays g c = none_later c.slot-slot.result c.look_word-step.result.found c.args.sock.now.id.0 c.args.seat.now.me.0 c.slot-slot.ensures c.look_word-step.ensures.fits.saw (sym c.version.ensures ∙ (c.if-version.true ∙ c.version-2.ensures))
