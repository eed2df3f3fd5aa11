use Rattle.std.proofs.Common.{arith, ap}
use Rattle.corr_core.specs.declared.marks.Plan.{Plan}
use Rattle.corr_id.proofs.CorrelationIdSteps.{loading}
use Rattle.corr_id.proofs.table.IdTable.load_word.Goals as goal

pub load-found-requires : goal.load-found-requires
load-found-requires g c = let t = c.args.self.now in let a = ap (λ (p : Plan). p.slots) t.planned in let b = ap (λ (p : Plan). p.operations) t.planned in let size = t.sized in let place = c.requires.place in (
  c.requires.seat.0,
  omega arith,
  loading t.table.shared.key t.table.shared.table_id.slots c.args.seat.now.id c.args.seat.now.me c.args.index (omega arith) (omega arith) c.requires.seat.1,
)
