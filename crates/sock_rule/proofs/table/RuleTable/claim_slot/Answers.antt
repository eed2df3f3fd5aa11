use Rattle.std.proofs.Common.{arith, refl, ◌∙◌, ◌<◌, sym, subst}
use Rattle.sock_rule.specs.OnKey.{shows_by}
use Rattle.sock_rule.specs.Shows.{rose}
use Rattle.sock_rule.proofs.AllowedSlotSteps.{claims}
use Rattle.sock_rule.proofs.SeatStaysInTable.{still_seat}
use Rattle.sock_rule.proofs.table.RuleTable.claim_slot.Goals as goal

pub swap-found-requires : goal.swap-found-requires
swap-found-requires g c = let a = c.requires.seat in (a.0, omega (arith, c.tag_index-index.ensures, c.args.self.now.sized), rw c.tag_index-index.ensures (claims (shows_by c.args.self.now.table.shared.key) rose c.args.self.now.table.shared.key.plan _ _ _ (a.1 ∙ sym c.args.self.now.planned) a.2 c.args.at (subst (λ q. c.args.at < q.slots) (sym c.args.self.now.planned) c.requires.slot)))

pub returns-clause-view : goal.returns-clause-view
returns-clause-view g c = rw c.claim_slot.ensures.step.0 (c.swap-found.ensures.2 c.args.at c.tag_index-index.ensures)

pub returns-clause-seat : goal.returns-clause-seat
returns-clause-seat g c = still_seat _ _ c.args.seat.now c.swap-found.new.seat _ c.requires.seat c.swap-found.ensures.0 (c.swap-found.ensures.2 c.args.at c.tag_index-index.ensures) refl refl
