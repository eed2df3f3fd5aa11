use Rattle.std.specs.Mem.Slots.{slots_filled, slots_len}
use Rattle.corr_id.proofs.IdCloseLoops.{still_full, now_empty}
use Rattle.corr_id.proofs.closing.empty_homes.Goals as goal

pub loop-k-preserved : goal.loop-k-preserved
loop-k-preserved g c = let h = c.loop-k.invariant in let e = c.take.ensures.others in (
  still_full (slots_filled c.loop-k.table.slots) (slots_filled c.take.new.self.slots) c.loop-k.k (slots_len c.loop-k.table.slots) (slots_len c.take.new.self.slots) e.1 e.2 h.0,
  now_empty (slots_filled c.loop-k.table.slots) (slots_filled c.take.new.self.slots) c.loop-k.k e.1 h.1,
)
