use Rattle.std.proofs.Common.{◌++◌}
use Rattle.sock_io.specs.LinkHalves.{taken_of}
use Rattle.sock_rule.proofs.homes.LinkHome.put.Given as goal

abbrev pub ghost-of : goal.ghost-of
ghost-of g a = a.by.now.list

abbrev pub ghost-of-2 : goal.ghost-of-2
ghost-of-2 g a = a.by.now.0.list ++ taken_of a.by.now.1.now a.by.now.2
