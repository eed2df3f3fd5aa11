use Rattle.std.proofs.Common.{arith}
use Rattle.sock_rule.proofs.table.RuleTable.seems_free.Goals as goal

pub peek-requires : goal.peek-requires
peek-requires g c = omega (arith, c.request_index-index.ensures, c.args.self.now.sized, c.requires.request)
