use Rattle.std.proofs.Common.{arith, refl}
use Rattle.sock_rule.specs.OnKey.{shows_by}
use Rattle.sock_rule.specs.Shows.{rose}
use Rattle.sock_rule.proofs.SeatStaysInTable.{still_seat}
use Rattle.sock_rule.proofs.LinkOwnerSteps.{frees_on}
use Rattle.sock_rule.proofs.table.RuleTable.free_request.Goals as goal

pub store-requires : goal.store-requires
store-requires g c = let a = c.requires.seat in (a.0, omega (arith, c.request_index-index.ensures, c.args.self.now.sized, c.requires.ticket.1, c.request.ensures), rw c.request_index-index.ensures (frees_on (shows_by c.args.self.now.table.shared.key) rose c.args.self.now.table.shared.key.plan c.args.self.now.plan _ _ _ a.1 a.2 c.args.self.now.planned c.args.now.0 _ _ (omega (arith, c.request.ensures)) (omega (arith, c.generation.ensures, c.requires.young)) c.requires.young c.requires.may))

pub returns-clause-seat : goal.returns-clause-seat
returns-clause-seat g c = let m = c.requires.may in still_seat _ _ c.args.seat.now c.store.new.seat _ c.requires.seat c.store.ensures.0 (c.store.ensures.2 m.right m.one) refl refl
