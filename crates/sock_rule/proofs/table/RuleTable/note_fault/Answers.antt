use Rattle.std.proofs.Common.{arith, refl, ◌∙◌, sym}
use Rattle.sock_rule.specs.OnKey.{shows_by}
use Rattle.sock_rule.specs.Shows.{rose}
use Rattle.sock_rule.proofs.SeatStaysInTable.{still_seat}
use Rattle.sock_rule.proofs.HoldingWriteRight.{notes_fault}
use Rattle.sock_rule.proofs.table.RuleTable.note_fault.Goals as goal

pub load-requires : goal.load-requires
load-requires g c = let a = c.requires.seat in let r = c.requires.hand in (a.0, omega (arith, c.link_index-index.ensures, c.args.self.now.sized, c.requires.slot), rw c.link_index-index.ensures (notes_fault (shows_by c.args.self.now.table.shared.key) rose c.args.self.now.table.shared.key.plan _ _ _ (a.1 ∙ sym c.args.self.now.planned) a.2 r.0 r.1 c.args.at r.2))

pub returns-clause-view : goal.returns-clause-view
returns-clause-view g c = λ r one. c.load.ensures.2 r c.args.at one c.link_index-index.ensures

pub returns-clause-seat : goal.returns-clause-seat
returns-clause-seat g c = still_seat _ _ c.args.seat.now c.load.new.seat _ c.requires.seat c.load.ensures.0 (c.load.ensures.2 c.requires.hand.0 c.args.at c.requires.hand.1 c.link_index-index.ensures) refl refl
