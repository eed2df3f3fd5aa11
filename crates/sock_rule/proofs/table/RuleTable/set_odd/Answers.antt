use Rattle.std.proofs.Common.{arith, refl, ◌∙◌, ◌<◌, sym, subst}
use Rattle.sock_rule.specs.OnKey.{shows_by}
use Rattle.sock_rule.specs.Shows.{rose}
use Rattle.sock_rule.proofs.AllowedSlotSteps.{fails}
use Rattle.sock_rule.proofs.SeatStaysInTable.{still_seat}
use Rattle.sock_rule.proofs.table.RuleTable.set_odd.Goals as goal

pub fetch_or-found-requires : goal.fetch_or-found-requires
fetch_or-found-requires g c = let a = c.requires.seat in (a.0, omega (arith, c.ref_index-index.ensures, c.args.self.now.sized, c.requires.slot), rw c.ref_index-index.ensures (fails (shows_by c.args.self.now.table.shared.key) rose c.args.self.now.table.shared.key.plan _ _ _ (a.1 ∙ sym c.args.self.now.planned) a.2 c.args.at (subst (λ q. c.args.at < q.slots) (sym c.args.self.now.planned) c.requires.slot) c.requires.held.0 c.requires.held.1 c.requires.room))

pub returns : goal.returns
returns g c = let t = c.fetch_or-found.ensures.2 c.args.at c.ref_index-index.ensures in let s = c.set_odd.ensures.step in record { seat = still_seat _ _ c.args.seat.now c.fetch_or-found.new.seat _ c.requires.seat c.fetch_or-found.ensures.0 t.0 refl refl; view = rw s.0 t.0; fits = rw s.0 t.1 }
