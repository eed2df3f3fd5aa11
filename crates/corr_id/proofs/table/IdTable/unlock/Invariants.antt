use Rattle.std.proofs.Common.{◌≡◌}
use Rattle.corr_core.specs.IdSlotWord.{parts}
use Rattle.corr_id.specs.Unlocks.{Before, Stepped, exchanges_left}
use Rattle.corr_id.proofs.table.IdTable.unlock.Given as goal

abbrev pub invariant-tries : goal.invariant-tries
invariant-tries g l = record {
  same_table : l.seat.table_id ≡ l.fn.seat.table_id;
  same_id : l.seat.id ≡ l.fn.seat.id;
  same_slots : l.seat.me.1 ≡ l.fn.seat.me.1;
  stepped : Stepped l.fn.seat.me.0 l.seat.me.0 l.fn.lock.slot (parts l.fn.lock.word.0) l.fn.lock.content l.fn.advance (parts l.from) l.step;
  before : Before l.fn.seat.me.0 l.seat.me.0 l.fn.lock.slot (parts l.fn.lock.word.0) l.fn.lock.content l.fn.advance (parts l.from);
}

abbrev pub decreases-tries : goal.decreases-tries
decreases-tries g l = exchanges_left (parts l.from) l.step
