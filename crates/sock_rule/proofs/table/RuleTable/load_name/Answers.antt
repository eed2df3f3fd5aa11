use Rattle.std.proofs.Common.{ℕ, ◌-◌, ◌%◌, ◌<◌, ◌≢◌, arith, ap, sym, ◌∙◌, subst}
use Rattle.sock_rule.specs.NotesBesideRows.{FoundAt}
use mathlib.Core.Option.{some}
use Rattle.sock_rule.specs.OnKey.{shows_by}
use Rattle.sock_rule.specs.Shows.{rose}
use Rattle.sock_rule.proofs.IdsAsNameWords.{finds_name_on, found_seat}
use Rattle.sock_rule.proofs.table.RuleTable.load_name.Goals as goal

pub load-requires : goal.load-requires
load-requires g c = let a = c.requires.seat in (a.0, omega (arith, c.name_index-index.ensures, c.args.self.now.sized, c.requires.name), rw c.name_index-index.ensures (finds_name_on (shows_by c.args.self.now.table.shared.key) rose _ _ _ _ _ c.args.self.now.planned a.1 a.2 c.args.name c.requires.name))

pub returns : goal.returns
returns g c = let t = c.load.ensures.2 in record { seat = found_seat _ _ c.args.seat.now c.load.new.seat _ c.load.result c.requires.seat c.load.ensures.0 _ t.0.0.view; view = subst (λ (x : ℕ). FoundAt x c.load.result c.args.seat.now.me c.load.new.seat.me) c.name_index-index.ensures t.0.0; inside = subst (λ q. c.load.result ≢ 0 → (c.load.result - 1) % 4294967296 < q.slots) c.requires.seat.1 t.1; stays = λ k at. t.0.2 k (at ∙ ap some (sym c.name_index-index.ensures)) }
