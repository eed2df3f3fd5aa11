use Rattle.std.proofs.Common.{arith, ap, sym, subst, ℕ, ◌≡◌, [], ◌∷◌}
use Rattle.corr_core.specs.IdSlotWord.{parts}
use Rattle.corr_core.specs.declared.marks.Hand.TheVariants.{Full}
use Rattle.corr_core.specs.declared.marks.Token.TheVariants.{Locked}
use Rattle.corr_core.specs.declared.marks.Note.TheVariants.{Saw, Locker}
use Rattle.id_rule.specs.IdPlays.{LockFits}
use Rattle.corr_id.specs.SeatBehindIdCalls.{Became, one, FoundUpTo, ReachedUpTo}
use Rattle.corr_id.proofs.CorrelationIdSteps.{locking}
use Rattle.corr_id.proofs.IdSeatSplits.{exchange_stays}
use Rattle.corr_id.proofs.SlotBehindViewChange.{became_as, noted_token, became_note}
use Rattle.corr_id.proofs.table.IdTable.lock_id.Goals as goal

pub compare_exchange-requires : goal.compare_exchange-requires
compare_exchange-requires g c = (
  c.requires.seat.0,
  omega (arith, c.args.self.now.sized, c.id_index-index.ensures),
  rw (c.id_index-index.ensures) (locking c.args.self.now.table.shared.key c.args.self.now.table.shared.table_id.slots c.args.seat.now.id c.args.seat.now.me c.args.at c.requires.slot c.requires.seat.1 c.args.from c.args.next c.requires.from.0 c.requires.from.1),
)

pub returns-clause-seat : goal.returns-clause-seat
returns-clause-seat g c = let t = c.compare_exchange.ensures.2 c.args.at c.id_index-index.ensures in exchange_stays c.args.seat.now c.compare_exchange.new.seat c.compare_exchange.result c.args.from c.compare_exchange.ensures.0 c.compare_exchange.ensures.1 (λ z. ap (λ m. m.1) (t.0 z).1) (λ n. ap (λ m. m.1) (t.1 n))

pub returns-clause-won : goal.returns-clause-won
returns-clause-won g c = λ hit. let t = (c.compare_exchange.ensures.2 c.args.at c.id_index-index.ensures).0 hit in (
  subst (λ (y : ℕ). LockFits (parts y)) hit t.2,
  (
    t.0,
    subst (λ (y : ℕ). Became c.args.at c.args.seat.now.me.0 c.compare_exchange.new.seat.me.0 (Locked (parts y).first (parts y).range (parts y).attempt t.0 (parts y).oldest (parts y).second (Full t.0) ∷ []) (one c.args.at (Locker (parts y).first t.0))) hit
        (let f : ℕ = (parts c.compare_exchange.result).first in let b = became_as c.args.at (ap (λ m. m.0) t.1) (noted_token c.args.at c.args.seat.now.me.0 (Locked f (parts c.compare_exchange.result).range (parts c.compare_exchange.result).attempt t.0 0 0 (Full t.0)) (Locker f t.0)) in
        subst (λ ts. Became c.args.at c.args.seat.now.me.0 c.compare_exchange.new.seat.me.0 ts (one c.args.at (Locker f t.0))) (λ z. Locked f (parts c.compare_exchange.result).range (parts c.compare_exchange.result).attempt t.0 (sym t.3.0 z) (sym t.3.1 z) (Full t.0) ∷ []) b),
  ),
)

pub returns-clause-lost : goal.returns-clause-lost
returns-clause-lost g c = λ miss. became_as c.args.at (ap (λ m. m.0) ((c.compare_exchange.ensures.2 c.args.at c.id_index-index.ensures).1 miss)) (became_note c.args.at c.args.seat.now.me.0 (Saw c.compare_exchange.result))

pub returns-clause-none_queued : goal.returns-clause-none_queued
returns-clause-none_queued g c = λ hit. subst (λ (y : ℕ). ((parts y).oldest ≡ 0) × ((parts y).second ≡ 0)) hit ((c.compare_exchange.ensures.2 c.args.at c.id_index-index.ensures).0 hit).3

pub returns-clause-latest : goal.returns-clause-latest
returns-clause-latest g c = λ hit. subst (λ (y : ℕ). FoundUpTo c.args.at (parts y).first c.args.seat.now.me.0) hit ((c.compare_exchange.ensures.2 c.args.at c.id_index-index.ensures).0 hit).4

pub returns-clause-reached : goal.returns-clause-reached
returns-clause-reached g c = λ hit. subst (λ (y : ℕ). ReachedUpTo c.args.at (parts y).first (parts y).attempt c.args.seat.now.me.0) hit ((c.compare_exchange.ensures.2 c.args.at c.id_index-index.ensures).0 hit).5
