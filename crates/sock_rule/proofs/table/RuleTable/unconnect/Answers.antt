use Rattle.std.proofs.Common.{arith, refl}
use Rattle.sock_rule.specs.OnKey.{shows_by}
use Rattle.sock_rule.specs.Shows.{rose}
use Rattle.sock_rule.proofs.SeatStaysInTable.{still_seat}
use Rattle.sock_rule.proofs.SendingOnRequestWords.{readies_on}
use Rattle.sock_rule.proofs.table.RuleTable.unconnect.Goals as goal

pub store-requires : goal.store-requires
store-requires g c = let a = c.requires.seat in let r = c.requires.claimed in (a.0, omega (arith, c.args.self.now.sized, c.requires.request, c.next_index-index.ensures), readies_on (shows_by c.args.self.now.table.shared.key) rose c.args.self.now.table.shared.key.plan c.args.self.now.plan _ _ _ a.1 a.2 c.args.self.now.planned c.args.at _ c.requires.request c.next_index-index.ensures r.0 r.1 r.2)

pub returns-clause-view : goal.returns-clause-view
returns-clause-view g c = λ d is. c.store.ensures.2 d is

pub returns-clause-seat : goal.returns-clause-seat
returns-clause-seat g c = still_seat _ _ c.args.seat.now c.store.new.seat _ c.requires.seat c.store.ensures.0 (c.store.ensures.2 c.requires.claimed.0 c.requires.claimed.1) refl refl
