use Rattle.std.proofs.Common.{arith, refl, ◌∙◌, ◌<◌, sym, subst}
use Rattle.sock_rule.specs.OnKey.{shows_by}
use Rattle.sock_rule.specs.Shows.{rose}
use Rattle.sock_rule.proofs.Storing.{resets}
use Rattle.sock_rule.proofs.SeatStaysInTable.{still_seat}
use Rattle.sock_rule.proofs.table.RuleTable.reset_head.Goals as goal

pub store-requires : goal.store-requires
store-requires g c = let a = c.requires.seat in (a.0, omega (arith, c.head_index-index.ensures, c.args.self.now.sized, c.requires.slot), rw c.head_index-index.ensures (resets (shows_by c.args.self.now.table.shared.key) rose c.args.self.now.table.shared.key.plan _ _ _ (a.1 ∙ sym c.args.self.now.planned) a.2 c.args.at (subst (λ q. c.args.at < q.slots) (sym c.args.self.now.planned) c.requires.slot) c.requires.claimed.0 c.requires.claimed.1))

pub returns : goal.returns
returns g c = record { seat = still_seat _ _ c.args.seat.now c.store.new.seat _ c.requires.seat c.store.ensures.0 (c.store.ensures.2 c.args.at c.requires.claimed.0 c.head_index-index.ensures c.requires.claimed.1) refl refl; view = λ k there. c.store.ensures.2 c.args.at k c.head_index-index.ensures there }
