use Rattle.std.proofs.Common.{◌++◌}
use Rattle.sock_io.specs.LinkHalves.{taken_of}
use Rattle.write_chain.proofs.hand.put_once.Given as goal

abbrev pub ghost-of : goal.ghost-of
ghost-of g a = a.by.now.list

abbrev pub ghost-of-2 : goal.ghost-of-2
ghost-of-2 g a = a.by.now.0.list ++ taken_of a.by.now.1.now a.by.now.2
