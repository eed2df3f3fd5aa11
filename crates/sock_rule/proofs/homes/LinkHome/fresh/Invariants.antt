use Rattle.std.proofs.Common.{[]}
use Rattle.sock_rule.proofs.homes.LinkHome.fresh.Given as goal

abbrev pub ghost-of : goal.ghost-of
ghost-of g a = []
