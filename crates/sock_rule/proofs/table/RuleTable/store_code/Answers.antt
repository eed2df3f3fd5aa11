use Rattle.std.proofs.Common.{arith, refl, ◌∙◌, ◌<◌, sym, subst}
use Rattle.sock_rule.specs.OnKey.{shows_by}
use Rattle.sock_rule.specs.Shows.{rose}
use Rattle.sock_rule.proofs.Storing.{codes}
use Rattle.sock_rule.proofs.SeatStaysInTable.{still_seat}
use Rattle.sock_rule.proofs.table.RuleTable.store_code.Goals as goal

pub store-requires : goal.store-requires
store-requires g c = let a = c.requires.seat in (a.0, omega (arith, c.code_index-index.ensures, c.args.self.now.sized, c.requires.slot), rw c.code_index-index.ensures (codes (shows_by c.args.self.now.table.shared.key) rose c.args.self.now.table.shared.key.plan _ _ _ (a.1 ∙ sym c.args.self.now.planned) a.2 c.args.at (subst (λ q. c.args.at < q.slots) (sym c.args.self.now.planned) c.requires.slot) c.requires.coding.0 c.args.code c.requires.coding.1 c.requires.code c.requires.small))

pub returns-clause-view : goal.returns-clause-view
returns-clause-view g c = λ h there. c.store.ensures.2 c.args.at h c.code_index-index.ensures there

pub returns-clause-seat : goal.returns-clause-seat
returns-clause-seat g c = still_seat _ _ c.args.seat.now c.store.new.seat _ c.requires.seat c.store.ensures.0 (c.store.ensures.2 c.args.at c.requires.coding.0 c.code_index-index.ensures c.requires.coding.1) refl refl
