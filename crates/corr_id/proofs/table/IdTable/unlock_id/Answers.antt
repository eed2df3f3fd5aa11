use Rattle.std.proofs.Common.{arith, ap, ◌∙◌, ℕ}
use Rattle.corr_core.specs.IdSlotWord.{parts}
use Rattle.corr_core.specs.declared.marks.Note.TheVariants.{Saw}
use Rattle.id_rule.specs.LawfulIdTable.{with_note}
use Rattle.id_rule.specs.IdPlays.{advanced_view, popped_view}
use Rattle.corr_id.proofs.CorrelationIdSteps.{unlocking}
use Rattle.corr_id.proofs.IdSeatSplits.{exchange_stays}
use Rattle.corr_id.proofs.SlotBehindViewChange.{ticks, unlocked_became, relocked_became}
use Rattle.corr_id.proofs.table.IdTable.unlock_id.Goals as goal
use Rattle.sock_words.specs.PackedWords.{bit}

pub compare_exchange-requires : goal.compare_exchange-requires
compare_exchange-requires g c = let w = parts c.args.from in (
  c.requires.seat.0,
  omega (arith, c.args.self.now.sized, c.id_index-index.ensures),
  rw (c.id_index-index.ensures) (unlocking c.args.self.now.table.shared.key c.args.self.now.table.shared.table_id.slots c.args.seat.now.id c.args.seat.now.me c.args.at c.requires.slot c.requires.seat.1 w.first w.range w.attempt w.oldest w.second c.requires.lock.0 c.requires.lock.1 c.args.from c.args.next (bit c.requires.next.0) c.requires.next.1
      (ticks c.requires.next.0 w.attempt w.range c.requires.next.2)),
)

pub returns-clause-seat : goal.returns-clause-seat
returns-clause-seat g c = let w = parts c.args.from in let t = c.compare_exchange.ensures.2 c.args.at w.first w.range w.attempt w.oldest w.second c.requires.lock.0 c.id_index-index.ensures c.requires.lock.1 in exchange_stays c.args.seat.now c.compare_exchange.new.seat c.compare_exchange.result c.args.from c.compare_exchange.ensures.0 c.compare_exchange.ensures.1 (λ z. ap (λ m. m.1) (t.0 z)) (λ n. ap (λ m. m.1) (t.1 n).0)

pub returns-clause-won : goal.returns-clause-won
returns-clause-won g c = λ hit x has. let w = parts c.args.from in let t = (c.compare_exchange.ensures.2 c.args.at w.first w.range w.attempt w.oldest w.second x c.id_index-index.ensures has).0 hit in let noted = with_note c.args.at (Saw c.args.from) c.args.seat.now.me.0 in
    unlocked_became c.args.at noted c.compare_exchange.new.seat.me.0 w (parts c.args.next) (bit c.requires.next.0) x c.requires.next.1 (ap (λ m. m.0) t ∙ ap (λ (y : ℕ). advanced_view c.args.at w.first w.attempt (parts c.args.next).attempt (popped_view c.args.at w.first w.range (parts c.args.next).attempt x (parts y).oldest (parts y).second (with_note c.args.at (Saw y) c.args.seat.now.me.0))) hit)

pub returns-clause-lost : goal.returns-clause-lost
returns-clause-lost g c = λ miss x has. let w = parts c.args.from in let t = (c.compare_exchange.ensures.2 c.args.at w.first w.range w.attempt w.oldest w.second x c.id_index-index.ensures has).1 miss in
    relocked_became c.args.at c.args.seat.now.me.0 c.compare_exchange.new.seat.me.0 w (parts c.compare_exchange.result) x t.1 (ap (λ m. m.0) t.0)

pub returns-clause-longer : goal.returns-clause-longer
returns-clause-longer g c = λ miss. let w = parts c.args.from in ((c.compare_exchange.ensures.2 c.args.at w.first w.range w.attempt w.oldest w.second c.requires.lock.0 c.id_index-index.ensures c.requires.lock.1).1 miss).1

pub returns-clause-fresh : goal.returns-clause-fresh
returns-clause-fresh g c = λ miss. let w = parts c.args.from in ((c.compare_exchange.ensures.2 c.args.at w.first w.range w.attempt w.oldest w.second c.requires.lock.0 c.id_index-index.ensures c.requires.lock.1).1 miss).2
