use Rattle.std.proofs.Common.{◌++◌}
use Rattle.sock_io.specs.LinkHalves.{given_of}
use Rattle.net_link.proofs.tcp_in.TcpIn.note.Given as goal

abbrev pub ghost-of : goal.ghost-of
ghost-of a = a.by.now.list

abbrev pub ghost-of-2 : goal.ghost-of-2
ghost-of-2 a = a.by.now.0.list ++ given_of a.by.now.1.now a.by.now.2
