use Rattle.std.proofs.Common.{arith, refl, ◌∙◌, sym, ap}
use Rattle.sock_rule.specs.OnKey.{shows_by}
use Rattle.sock_rule.specs.Shows.{rose}
use Rattle.sock_rule.proofs.SeatStaysInTable.{still_seat}
use Rattle.sock_model.specs.SocketTableLayout.{next_index}
use Rattle.sock_rule.proofs.SendingOnRequestWords.{connects_on}
use Rattle.sock_rule.proofs.table.RuleTable.connect.Goals as goal

pub store-requires : goal.store-requires
store-requires g c = let a = c.requires.seat in let r = c.requires.loose in (a.0, omega (arith, c.args.self.now.sized, c.requires.request, c.next_index-index.ensures), connects_on (shows_by c.args.self.now.table.shared.key) rose c.args.self.now.table.shared.key.plan c.args.self.now.plan _ _ _ a.1 a.2 c.args.self.now.planned c.args.at _ c.requires.request c.next_index-index.ensures _ r.0 r.1 r.2 r.3 r.4)

pub returns-clause-view : goal.returns-clause-view
returns-clause-view g c = c.store.ensures.2 c.args.at (c.next_index-index.ensures ∙ ap (λ q. next_index q c.args.at) (sym c.requires.seat.1))

pub returns-clause-seat : goal.returns-clause-seat
returns-clause-seat g c = still_seat _ _ c.args.seat.now c.store.new.seat _ c.requires.seat c.store.ensures.0 (c.store.ensures.2 c.args.at (c.next_index-index.ensures ∙ ap (λ q. next_index q c.args.at) (sym c.requires.seat.1))) refl refl
