use Rattle.std.proofs.Common.{ℕ, ◌-◌, ◌%◌, ◌<◌, ◌≢◌, arith, ap, sym, ◌∙◌, subst}
use Rattle.sock_rule.specs.NotesBesideRows.{FoundAt}
use mathlib.Core.Option.{some}
use Rattle.sock_rule.specs.OnKey.{shows_by}
use Rattle.sock_rule.specs.Shows.{rose}
use Rattle.sock_rule.proofs.IdsAsNameWords.{finds_open_on, found_seat}
use Rattle.sock_rule.proofs.table.RuleTable.load_open.Goals as goal
use Rattle.sock_words.specs.PackedWords.{NO_SOCKET}

pub load-requires : goal.load-requires
load-requires g c = let a = c.requires.seat in (a.0, omega (arith, c.open_index-index.ensures, c.args.self.now.sized, c.requires.operation), rw c.open_index-index.ensures (finds_open_on (shows_by c.args.self.now.table.shared.key) rose _ _ _ _ _ c.args.self.now.planned a.1 a.2 c.args.operation c.requires.operation))

pub returns : goal.returns
returns g c = let t = c.load.ensures.2 in record { seat = found_seat _ _ c.args.seat.now c.load.new.seat _ c.load.result c.requires.seat c.load.ensures.0 _ t.0.view; view = subst (λ (x : ℕ). FoundAt x c.load.result c.args.seat.now.me c.load.new.seat.me) c.open_index-index.ensures t.0; inside = subst (λ q. c.load.result ≢ 0 → c.load.result ≢ NO_SOCKET → (c.load.result - 1) % 4294967296 < q.slots) c.requires.seat.1 t.1; stays = λ k at. t.2 k (at ∙ ap some (sym c.open_index-index.ensures)) }
