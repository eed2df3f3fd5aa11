use Rattle.std.proofs.Common.{arith, refl}
use Rattle.sock_rule.specs.OnKey.{shows_by}
use Rattle.sock_rule.specs.Shows.{rose}
use Rattle.sock_rule.proofs.SeatStaysInTable.{still_seat}
use Rattle.sock_rule.proofs.LinkOwnerSteps.{turns_on}
use Rattle.sock_rule.proofs.table.RuleTable.reverse_next.Goals as goal

pub next_index-index-requires : goal.next_index-index-requires
next_index-index-requires g c = omega (arith, c.requires.ticket.1, c.request.ensures)

pub store-requires : goal.store-requires
store-requires g c = let a = c.requires.seat in (a.0, omega (arith, c.args.self.now.sized, c.requires.ticket.1, c.request.ensures, c.next_index-index.ensures), turns_on (shows_by c.args.self.now.table.shared.key) rose c.args.self.now.table.shared.key.plan c.args.self.now.plan _ _ _ a.1 a.2 c.args.self.now.planned c.args.at.0 _ c.args.value (omega (arith, c.request.ensures, c.next_index-index.ensures)) c.requires.may)

pub returns-clause-view : goal.returns-clause-view
returns-clause-view g c = λ r top after before one stage. c.store.ensures.2 r top c.args.at.0 after before one stage

pub returns-clause-seat : goal.returns-clause-seat
returns-clause-seat g c = let m = c.requires.may in still_seat _ _ c.args.seat.now c.store.new.seat _ c.requires.seat c.store.ensures.0 (c.store.ensures.2 m.right m.top c.args.at.0 c.args.value m.before m.one m.stage) refl refl
