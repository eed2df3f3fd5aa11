use Rattle.std.proofs.Common.{arith, ◌∙◌, sym}
use Rattle.sock_rule.specs.OnKey.{shows_by}
use Rattle.sock_rule.specs.Shows.{rose}
use Rattle.sock_rule.proofs.SplitSeatsKeepRule.{passes_out}
use Rattle.sock_rule.proofs.table.RuleTable.pass_out.Goals as goal

pub split_seat-requires : goal.split_seat-requires
split_seat-requires g c = let a = c.requires.seat in (a.0, omega (arith, c.args.self.now.sized, c.args.self.now.some_slots), passes_out (shows_by c.args.self.now.table.shared.key) rose c.args.self.now.table.shared.key.plan _ _ (a.1 ∙ sym c.args.self.now.planned) c.requires.spare a.2)
