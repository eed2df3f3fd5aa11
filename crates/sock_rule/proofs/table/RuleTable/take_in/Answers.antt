use Rattle.std.proofs.Common.{arith, ◌∙◌, sym, subst}
use Rattle.sock_rule.specs.OnKey.{shows_by}
use Rattle.sock_rule.specs.Shows.{rose}
use Rattle.sock_rule.specs.SocketSeatSplits.{IsDone}
use Rattle.sock_rule.proofs.SplitSeatsKeepRule.{takes}
use Rattle.sock_rule.proofs.table.RuleTable.take_in.Goals as goal

pub join_seat-requires : goal.join_seat-requires
join_seat-requires g c = let a = c.requires.seat in (
  a.0,
  c.requires.from.0,
  c.requires.from.1,
  omega (arith, c.args.self.now.sized, c.args.self.now.some_slots),
  takes (shows_by c.args.self.now.table.shared.key) rose c.args.self.now.table.shared.key.plan _ _ (a.1 ∙ sym c.args.self.now.planned) a.2 _ _ (subst (λ q. IsDone q c.args.from.me.0) (sym c.args.self.now.planned) c.requires.done),
)
