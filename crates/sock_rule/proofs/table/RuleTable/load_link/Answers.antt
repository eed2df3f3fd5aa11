use Rattle.std.proofs.Common.{arith, refl, ◌∙◌, ◌<◌, sym, subst}
use Rattle.sock_rule.specs.OnKey.{shows_by}
use Rattle.sock_rule.specs.Shows.{rose}
use Rattle.sock_rule.proofs.Storing.{meets}
use Rattle.sock_rule.proofs.SeatStaysInTable.{still_seat}
use Rattle.sock_rule.proofs.table.RuleTable.load_link.Goals as goal

pub load-requires : goal.load-requires
load-requires g c = let a = c.requires.seat in (a.0, omega (arith, c.link_index-index.ensures, c.args.self.now.sized, c.requires.slot), rw c.link_index-index.ensures (meets (shows_by c.args.self.now.table.shared.key) rose c.args.self.now.table.shared.key.plan _ _ _ (a.1 ∙ sym c.args.self.now.planned) a.2 c.args.at (subst (λ q. c.args.at < q.slots) (sym c.args.self.now.planned) c.requires.slot) c.requires.held.0 c.requires.held.1))

pub returns : goal.returns
returns g c = let t = c.load.ensures.2 c.args.at c.requires.held.0 c.link_index-index.ensures c.requires.held.1 in record { seat = still_seat _ _ c.args.seat.now c.load.new.seat _ c.requires.seat c.load.ensures.0 t.0 refl refl; view = λ h there. (c.load.ensures.2 c.args.at h c.link_index-index.ensures there).0; same = λ h k there met. (c.load.ensures.2 c.args.at h c.link_index-index.ensures there).1 k met; inside = subst (λ q. c.load.result < q.links) c.requires.seat.1 t.2 }
