use Rattle.std.proofs.Common.{arith, refl, ◌∙◌, ◌<◌, sym, subst}
use Rattle.sock_rule.specs.OnKey.{shows_by}
use Rattle.sock_rule.specs.Shows.{rose}
use Rattle.sock_rule.proofs.AllowedSlotSteps.{adds}
use Rattle.sock_rule.proofs.SeatStaysInTable.{still_seat}
use Rattle.sock_rule.proofs.table.RuleTable.add_ref.Goals as goal

pub fetch_add-found-requires : goal.fetch_add-found-requires
fetch_add-found-requires g c = let a = c.requires.seat in (a.0, omega (arith, c.ref_index-index.ensures, c.args.self.now.sized), rw c.ref_index-index.ensures (adds (shows_by c.args.self.now.table.shared.key) rose c.args.self.now.table.shared.key.plan _ _ _ (a.1 ∙ sym c.args.self.now.planned) a.2 c.args.at (subst (λ q. c.args.at < q.slots) (sym c.args.self.now.planned) c.requires.slot) c.requires.room))

pub returns : goal.returns
returns g c = let t = c.fetch_add-found.ensures.2.1 c.args.at c.ref_index-index.ensures in let s = c.add_ref.ensures.step in record { seat = still_seat _ _ c.args.seat.now c.fetch_add-found.new.seat _ c.requires.seat c.fetch_add-found.ensures.0 t.0 refl refl; view = rw s.0 t.0; step = rw s.0 s.1; fits = rw s.0 t.1 }
