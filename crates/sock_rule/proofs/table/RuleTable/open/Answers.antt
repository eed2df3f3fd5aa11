use Rattle.sock_rule.specs.Shows.{shows_in, rose}
use Rattle.sock_rule.proofs.SplitSeatsKeepRule.{opens}
use Rattle.sock_rule.proofs.table.RuleTable.open.Goals as goal

pub new-requires : goal.new-requires
new-requires g c = opens (shows_in c.args.plan c.args.ways.list) rose c.args.plan c.args.words.now c.args.homes.items c.requires.new
