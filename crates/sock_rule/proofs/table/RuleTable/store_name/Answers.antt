use Rattle.std.proofs.Common.{ℕ, ◌+◌, arith, refl, subst}
use Rattle.sock_rule.specs.NotesBesideRows.{PutAt}
use Rattle.sock_rule.specs.OnKey.{shows_by}
use Rattle.sock_rule.specs.Shows.{rose}
use Rattle.sock_rule.proofs.IdsAsNameWords.{stores_name_on}
use Rattle.sock_rule.proofs.SeatStaysInTable.{still_seat}
use Rattle.sock_rule.proofs.table.RuleTable.store_name.Goals as goal

pub store-requires : goal.store-requires
store-requires g c = let a = c.requires.seat in (a.0, omega (arith, c.name_index-index.ensures, c.args.self.now.sized, c.requires.name), rw c.name_index-index.ensures (stores_name_on (shows_by c.args.self.now.table.shared.key) rose _ _ _ _ _ c.args.self.now.planned a.1 a.2 c.args.name c.args.id.0 _ c.requires.name refl c.requires.known.inside c.requires.known.known))

pub returns : goal.returns
returns g c = let t = subst (λ (x : ℕ). PutAt x (c.args.id.0 + 1) c.args.seat.now.me c.store.new.seat.me) c.name_index-index.ensures c.store.ensures.2 in record { seat = still_seat _ _ c.args.seat.now c.store.new.seat _ c.requires.seat c.store.ensures.0 t.view refl refl; view = t }
