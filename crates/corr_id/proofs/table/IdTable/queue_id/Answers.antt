use Rattle.std.proofs.Common.{arith, ap, ◌∙◌, subst, ℕ, ◌≢◌}
use Rattle.corr_core.specs.IdSlotWord.{parts}
use Rattle.corr_core.specs.declared.marks.Note.TheVariants.{Saw, Queued}
use Rattle.corr_id.specs.SeatBehindIdCalls.{Became, one, FoundUpTo}
use Rattle.corr_id.proofs.CorrelationIdSteps.{queueing, queued_is, put_is}
use Rattle.corr_id.proofs.IdSeatSplits.{exchange_stays}
use Rattle.corr_id.proofs.SlotBehindViewChange.{became_as, became_note}
use Rattle.corr_id.proofs.table.IdTable.queue_id.Goals as goal

pub compare_exchange-requires : goal.compare_exchange-requires
compare_exchange-requires g c = let some_error : c.args.error ≢ 0 = (λ z. let k = c.requires.error.0 in omega arith) in (
  c.requires.seat.0,
  omega (arith, c.args.self.now.sized, c.id_index-index.ensures),
  rw (c.id_index-index.ensures) (queueing c.args.self.now.table.shared.key c.args.self.now.table.shared.table_id.slots c.args.seat.now.id c.args.seat.now.me c.args.at c.requires.slot c.requires.seat.1 c.args.from c.args.next c.args.error c.requires.from.0 c.requires.from.1 some_error c.requires.error.1
      (c.requires.next ∙ queued_is (parts c.args.from) c.args.error c.requires.from.0)),
)

pub returns-clause-seat : goal.returns-clause-seat
returns-clause-seat g c = let t = c.compare_exchange.ensures.2 c.args.at c.id_index-index.ensures in exchange_stays c.args.seat.now c.compare_exchange.new.seat c.compare_exchange.result c.args.from c.compare_exchange.ensures.0 c.compare_exchange.ensures.1 (λ z. ap (λ m. m.1) (t.0 z).0) (λ n. ap (λ m. m.1) (t.1 n))

pub returns-clause-won : goal.returns-clause-won
returns-clause-won g c = λ hit. let t = ((c.compare_exchange.ensures.2 c.args.at c.id_index-index.ensures).0 hit).0 in
    let e = ap (Rattle.id_rule.specs.IdPlays.put_error (parts c.args.from)) (c.requires.next ∙ queued_is (parts c.args.from) c.args.error c.requires.from.0) ∙ put_is (parts c.args.from) c.args.error in
    subst (λ (y : ℕ). Became c.args.at c.args.seat.now.me.0 c.compare_exchange.new.seat.me.0 (Rattle.id_rule.specs.LawfulIdTable.tokens_in c.args.at c.args.seat.now.me.0) (one c.args.at (Queued (parts y).first c.args.error))) hit
    (subst (λ (y : ℕ). Became c.args.at c.args.seat.now.me.0 c.compare_exchange.new.seat.me.0 (Rattle.id_rule.specs.LawfulIdTable.tokens_in c.args.at c.args.seat.now.me.0) (one c.args.at (Queued (parts c.compare_exchange.result).first y))) e
    (became_as c.args.at (ap (λ m. m.0) t) (became_note c.args.at c.args.seat.now.me.0 _)))

pub returns-clause-lost : goal.returns-clause-lost
returns-clause-lost g c = λ miss. became_as c.args.at (ap (λ m. m.0) ((c.compare_exchange.ensures.2 c.args.at c.id_index-index.ensures).1 miss)) (became_note c.args.at c.args.seat.now.me.0 (Saw c.compare_exchange.result))

pub returns-clause-latest : goal.returns-clause-latest
returns-clause-latest g c = λ hit. subst (λ (y : ℕ). FoundUpTo c.args.at (parts y).first c.args.seat.now.me.0) hit ((c.compare_exchange.ensures.2 c.args.at c.id_index-index.ensures).0 hit).1
