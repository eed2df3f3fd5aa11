use Rattle.std.proofs.Common.{arith, ap, sym, ◌∙◌, subst, ℕ, ◌<◌, ◌∷◌}
use mathlib.Core.Option.{some-injective}
use Rattle.atomic_table.specs.Table.{rest}
use Rattle.corr_core.specs.declared.marks.Hand.TheVariants.{Out}
use Rattle.id_rule.specs.IdPlays.{hand_of, with_hand, value_of}
use Rattle.corr_id.proofs.CorrelationIdSteps.{taking, giving}
use Rattle.corr_id.proofs.SlotBehindViewChange.{top_value, moved_became, out_token, hand_out, out_leaves, out_fits}
use Rattle.corr_id.proofs.table.IdTable.move_call.Goals as goal

pub load-requires : goal.load-requires
load-requires g c = (
  c.requires.seat.0,
  omega (arith, c.args.self.now.sized, c.tag_index-index.ensures),
  rw (c.tag_index-index.ensures) (taking c.args.self.now.table.shared.key c.args.self.now.table.shared.table_id.slots c.args.seat.now.id c.args.seat.now.me c.args.at c.requires.slot c.requires.seat.1 c.requires.may.token c.requires.may.has c.requires.may.ready),
)

pub exchange-found-requires : goal.exchange-found-requires
exchange-found-requires g c = let t = c.load.ensures.2 c.args.at c.requires.may.token c.tag_index-index.ensures c.requires.may.has in
    (c.load.ensures.0 ∙ c.requires.seat.0, (value_of (hand_of c.requires.may.token), ap (λ m. m.1) t ∙ ap (λ l. (c.args.at, value_of (hand_of c.requires.may.token)) ∷ rest l) (sym (ap (λ m. m.1) t))))

pub load-requires-2 : goal.load-requires-2
load-requires-2 g c =
    let x = c.requires.may in let t = c.load.ensures.2 c.args.at x.token c.tag_index-index.ensures x.has in let v = c.args.seat.now.me.0 in
    let e = ap (λ m. m.0) t in let f = ap (λ m. m.0) c.exchange-found.ensures.3 in
    let real : 0 < c.exchange-found.new.seat.me.0.share = subst (λ (n : ℕ). 0 < n) (sym (ap (λ y. y.share) (f ∙ e))) c.requires.seat.1 in (
      c.exchange-found.ensures.0 ∙ (c.load.ensures.0 ∙ c.requires.seat.0),
      omega (arith, c.args.self.now.sized, c.tag_index-index.ensures),
      rw (c.tag_index-index.ensures) (giving c.args.self.now.table.shared.key c.args.self.now.table.shared.table_id.slots c.exchange-found.new.seat.id c.exchange-found.new.seat.me c.args.at c.requires.slot real (with_hand x.token Out) c.args.value (rest c.load.new.seat.me.1)
          (out_token c.args.at v c.exchange-found.new.seat.me.0 x.token (f ∙ e)) (hand_out c.args.at x.token x.ready) (out_leaves c.args.at x.token x.ready) (out_fits c.args.at x.token (Rattle.id_rule.specs.IdPlays.hand_by c.args.value) x.fits) (ap (λ m. m.1) c.exchange-found.ensures.3)),
    )

pub returns-clause-seat : goal.returns-clause-seat
returns-clause-seat g c =
    let x = c.requires.may in let t = c.load.ensures.2 c.args.at x.token c.tag_index-index.ensures x.has in let v = c.args.seat.now.me.0 in let e = ap (λ m. m.0) t in let f = ap (λ m. m.0) c.exchange-found.ensures.3 in
    let u = c.load-2.ensures.2 c.args.at (with_hand x.token Out) c.args.value (rest c.load.new.seat.me.1) c.tag_index-index.ensures (out_token c.args.at v c.exchange-found.new.seat.me.0 x.token (f ∙ e)) (ap (λ m. m.1) c.exchange-found.ensures.3) in (
      c.load-2.ensures.0 ∙ (c.exchange-found.ensures.0 ∙ c.load.ensures.0),
      c.load-2.ensures.1 ∙ (c.exchange-found.ensures.1 ∙ c.load.ensures.1),
      ap (λ m. m.1) u ∙ ap rest (ap (λ m. m.1) t),
    )

pub returns-clause-moved : goal.returns-clause-moved
returns-clause-moved g c = λ y has.
    let x = c.requires.may in let t = c.load.ensures.2 c.args.at y c.tag_index-index.ensures has in let v = c.args.seat.now.me.0 in let e = ap (λ m. m.0) t in let f = ap (λ m. m.0) c.exchange-found.ensures.3 in
    let u = c.load-2.ensures.2 c.args.at (with_hand y Out) c.args.value (rest c.load.new.seat.me.1) c.tag_index-index.ensures (out_token c.args.at v c.exchange-found.new.seat.me.0 y (f ∙ e)) (ap (λ m. m.1) c.exchange-found.ensures.3) in
    let found = some-injective _ _ (ap top_value (sym c.exchange-found.ensures.2 ∙ ap (λ m. m.1) t)) in (
      found,
      moved_became c.args.at v c.exchange-found.new.seat.me.0 c.load-2.new.seat.me.0 y c.args.value (f ∙ e) (ap (λ m. m.0) u),
    )
