use Rattle.std.proofs.Common.{arith, ap}
use Rattle.corr_core.specs.declared.marks.Plan.{Plan}
use Rattle.corr_id.proofs.CorrelationIdSteps.{storing}
use Rattle.corr_id.proofs.table.IdTable.store_word.Goals as goal

pub store-requires : goal.store-requires
store-requires g c = let t = c.args.self.now in let a = ap (λ (p : Plan). p.slots) t.planned in let b = ap (λ (p : Plan). p.operations) t.planned in let size = t.sized in let place = c.requires.place in (
  c.requires.seat.0,
  omega arith,
  storing t.table.shared.key t.table.shared.table_id.slots c.args.seat.now.id c.args.seat.now.me c.args.index (omega arith) (omega arith) c.requires.seat.1 c.args.value c.requires.some c.requires.made,
)
