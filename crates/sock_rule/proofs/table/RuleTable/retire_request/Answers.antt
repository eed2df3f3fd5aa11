use Rattle.std.proofs.Common.{arith, refl}
use Rattle.sock_rule.specs.OnKey.{shows_by}
use Rattle.sock_rule.specs.Shows.{rose}
use Rattle.sock_rule.proofs.SeatStaysInTable.{still_seat}
use Rattle.sock_rule.proofs.LinkOwnerSteps.{retires_on}
use Rattle.sock_rule.proofs.table.RuleTable.retire_request.Goals as goal

pub load-requires : goal.load-requires
load-requires g c = let a = c.requires.seat in (a.0, omega (arith, c.args.self.now.sized, c.args.self.now.some_slots), retires_on (shows_by c.args.self.now.table.shared.key) rose c.args.self.now.table.shared.key.plan c.args.self.now.plan _ _ _ a.1 a.2 c.args.self.now.planned c.args.now.0 0 c.requires.last c.requires.may)

pub returns-clause-seat : goal.returns-clause-seat
returns-clause-seat g c = let m = c.requires.may in still_seat _ _ c.args.seat.now c.load.new.seat _ c.requires.seat c.load.ensures.0 (c.load.ensures.2 m.right m.one) refl refl
