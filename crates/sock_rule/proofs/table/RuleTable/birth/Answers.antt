use Rattle.std.proofs.Common.{arith, refl, ◌∙◌, ◌<◌, sym, subst}
use Rattle.sock_rule.specs.OnKey.{shows_by}
use Rattle.sock_rule.specs.Shows.{rose}
use Rattle.sock_rule.proofs.AllowedSlotSteps.{births}
use Rattle.sock_rule.proofs.SeatStaysInTable.{still_seat}
use Rattle.sock_rule.proofs.table.RuleTable.birth.Goals as goal

pub fetch_add-found-requires : goal.fetch_add-found-requires
fetch_add-found-requires g c = let a = c.requires.seat in (a.0, omega (arith, c.ref_index-index.ensures, c.args.self.now.sized, c.requires.slot), rw c.ref_index-index.ensures (births (shows_by c.args.self.now.table.shared.key) rose c.args.self.now.table.shared.key.plan _ _ _ (a.1 ∙ sym c.args.self.now.planned) a.2 c.args.at (subst (λ q. c.args.at < q.slots) (sym c.args.self.now.planned) c.requires.slot) c.requires.claimed.0 c.requires.claimed.1))

pub returns-clause-view : goal.returns-clause-view
returns-clause-view g c = λ k there. rw c.birth.ensures.step.0 ((c.fetch_add-found.ensures.2.1 c.args.at k c.ref_index-index.ensures there).0)

pub returns-clause-version : goal.returns-clause-version
returns-clause-version g c = rw c.birth.ensures.step.0 (let x = c.fetch_add-found.ensures.2.1 c.args.at c.requires.claimed.0 c.ref_index-index.ensures c.requires.claimed.1 in (x.1, x.2))

pub returns-clause-seat : goal.returns-clause-seat
returns-clause-seat g c = still_seat _ _ c.args.seat.now c.fetch_add-found.new.seat _ c.requires.seat c.fetch_add-found.ensures.0 ((c.fetch_add-found.ensures.2.1 c.args.at c.requires.claimed.0 c.ref_index-index.ensures c.requires.claimed.1).0) refl refl
