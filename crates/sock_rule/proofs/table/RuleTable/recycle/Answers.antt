use Rattle.std.proofs.Common.{arith, refl, ◌∙◌, ◌<◌, sym, subst}
use mathlib.Core.Option.{none}
use Rattle.sock_rule.specs.OnKey.{shows_by}
use Rattle.sock_rule.specs.Shows.{rose}
use Rattle.sock_rule.proofs.AllowedSlotSteps.{recycles}
use Rattle.sock_rule.proofs.SeatStaysInTable.{still_seat}
use Rattle.sock_rule.proofs.table.RuleTable.recycle.Goals as goal

pub compare_exchange-found-requires : goal.compare_exchange-found-requires
compare_exchange-found-requires g c = let a = c.requires.seat in (
  a.0,
  omega (arith, c.ref_index-index.ensures, c.args.self.now.sized, c.requires.slot),
  rw c.ref_index-index.ensures (recycles (shows_by c.args.self.now.table.shared.key) rose c.args.self.now.table.shared.key.plan _ _ _ (a.1 ∙ sym c.args.self.now.planned) a.2 c.args.at (subst (λ q. c.args.at < q.slots) (sym c.args.self.now.planned) c.requires.slot)
      c.args.from.0 _ refl c.requires.from.1 c.requires.from.2 c.requires.zero none),
)

pub returns-clause-view : goal.returns-clause-view
returns-clause-view g c = rw c.recycle.ensures.found (c.compare_exchange-found.ensures.2 c.args.at c.ref_index-index.ensures).0

pub returns-clause-seat : goal.returns-clause-seat
returns-clause-seat g c = still_seat _ _ c.args.seat.now c.compare_exchange-found.new.seat _ c.requires.seat c.compare_exchange-found.ensures.0 ((c.compare_exchange-found.ensures.2 c.args.at c.ref_index-index.ensures).0) refl refl

pub returns-clause-alone : goal.returns-clause-alone
returns-clause-alone g c = λ hit. (c.compare_exchange-found.ensures.2 c.args.at c.ref_index-index.ensures).1 (sym c.recycle.ensures.found ∙ hit)
