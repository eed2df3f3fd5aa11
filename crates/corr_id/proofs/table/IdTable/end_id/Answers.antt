use Rattle.std.proofs.Common.{arith, ap}
use Rattle.corr_core.specs.IdSlotWord.{parts}
use Rattle.corr_id.proofs.CorrelationIdSteps.{ending}
use Rattle.corr_id.proofs.SlotBehindViewChange.{ended_became, retired_became}
use Rattle.corr_id.proofs.table.IdTable.end_id.Goals as goal

pub swap-requires : goal.swap-requires
swap-requires g c = let w = parts c.args.from.0 in (
  c.requires.seat.0,
  omega (arith, c.args.self.now.sized, c.id_index-index.ensures),
  rw (c.id_index-index.ensures) (ending c.args.self.now.table.shared.key c.args.self.now.table.shared.table_id.slots c.args.seat.now.id c.args.seat.now.me c.args.at c.requires.slot c.requires.seat.1 w.first w.range w.attempt w.oldest w.second c.requires.lock.0 c.requires.lock.1 c.args.next c.requires.next),
)

pub returns-clause-seat : goal.returns-clause-seat
returns-clause-seat g c = let w = parts c.args.from.0 in (c.swap.ensures.0, c.swap.ensures.1, ap (λ m. m.1) (c.swap.ensures.2 c.args.at w.first w.range w.attempt w.oldest w.second c.requires.lock.0 c.id_index-index.ensures c.requires.lock.1))

pub returns-clause-freed : goal.returns-clause-freed
returns-clause-freed g c = λ le. let w = parts c.args.from.0 in ended_became c.args.at c.args.seat.now.me.0 c.swap.new.seat.me.0 w.first w.attempt (parts c.args.next).first (ap (λ m. m.0) (c.swap.ensures.2 c.args.at w.first w.range w.attempt w.oldest w.second c.requires.lock.0 c.id_index-index.ensures c.requires.lock.1)) le

pub returns-clause-retired : goal.returns-clause-retired
returns-clause-retired g c = λ lt. let w = parts c.args.from.0 in retired_became c.args.at c.args.seat.now.me.0 c.swap.new.seat.me.0 w.first w.attempt (parts c.args.next).first (ap (λ m. m.0) (c.swap.ensures.2 c.args.at w.first w.range w.attempt w.oldest w.second c.requires.lock.0 c.id_index-index.ensures c.requires.lock.1)) lt
