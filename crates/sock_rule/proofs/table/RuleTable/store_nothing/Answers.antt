use Rattle.std.proofs.Common.{ℕ, arith, refl, subst}
use Rattle.sock_rule.specs.NotesBesideRows.{PutAt}
use Rattle.sock_rule.specs.OnKey.{shows_by}
use Rattle.sock_rule.specs.Shows.{rose}
use Rattle.sock_rule.proofs.IdsAsNameWords.{stores_nothing_on}
use Rattle.sock_rule.proofs.SeatStaysInTable.{still_seat}
use Rattle.sock_rule.proofs.table.RuleTable.store_nothing.Goals as goal
use Rattle.sock_words.specs.PackedWords.{NO_SOCKET}

pub store-requires : goal.store-requires
store-requires g c = let a = c.requires.seat in (
  a.0,
  omega (arith, c.open_index-index.ensures, c.args.self.now.sized, c.requires.operation),
  rw c.open_index-index.ensures (stores_nothing_on (shows_by c.args.self.now.table.shared.key) rose _ _ _ _ _ c.args.self.now.planned a.1 a.2 c.args.operation _ c.requires.operation c.args.self.now.some_slots refl),
)

pub returns-clause-noted : goal.returns-clause-noted
returns-clause-noted g c = subst (λ (x : ℕ). PutAt x NO_SOCKET c.args.seat.now.me c.store.new.seat.me) c.open_index-index.ensures c.store.ensures.2

pub returns-clause-seat : goal.returns-clause-seat
returns-clause-seat g c = still_seat _ _ c.args.seat.now c.store.new.seat _ c.requires.seat c.store.ensures.0 (returns-clause-noted g c).view refl refl
