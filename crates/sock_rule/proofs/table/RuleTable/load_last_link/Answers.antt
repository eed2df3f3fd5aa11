use Rattle.std.proofs.Common.{arith, refl, ◌∙◌, ◌<◌, sym, subst}
use Rattle.sock_rule.specs.OnKey.{shows_by}
use Rattle.sock_rule.specs.Shows.{rose}
use Rattle.sock_rule.proofs.Storing.{meets_last}
use Rattle.sock_rule.proofs.SeatStaysInTable.{still_seat}
use Rattle.sock_rule.proofs.table.RuleTable.load_last_link.Goals as goal

pub load-requires : goal.load-requires
load-requires g c = let a = c.requires.seat in (a.0, omega (arith, c.link_index-index.ensures, c.args.self.now.sized, c.requires.slot), rw c.link_index-index.ensures (meets_last (shows_by c.args.self.now.table.shared.key) rose c.args.self.now.table.shared.key.plan _ _ _ (a.1 ∙ sym c.args.self.now.planned) a.2 c.args.at (subst (λ q. c.args.at < q.slots) (sym c.args.self.now.planned) c.requires.slot) c.requires.recycled.0 c.requires.recycled.1))

pub returns-clause-view : goal.returns-clause-view
returns-clause-view g c = λ w there. (c.load.ensures.2 c.args.at w c.link_index-index.ensures there).0

pub returns-clause-inside : goal.returns-clause-inside
returns-clause-inside g c = subst (λ q. c.load.result < q.links) c.requires.seat.1 ((c.load.ensures.2 c.args.at c.requires.recycled.0 c.link_index-index.ensures c.requires.recycled.1).1)

pub returns-clause-seat : goal.returns-clause-seat
returns-clause-seat g c = still_seat _ _ c.args.seat.now c.load.new.seat _ c.requires.seat c.load.ensures.0 ((c.load.ensures.2 c.args.at c.requires.recycled.0 c.link_index-index.ensures c.requires.recycled.1).0) refl refl
