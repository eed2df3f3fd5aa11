use Rattle.sock_table.specs.ClosedSocketTable.{ways_of}
use Rattle.sock_open.proofs.opening.new_table.Given as goal

abbrev pub ghost-of : goal.ghost-of
ghost-of g a = ways_of g.O.Out.state a.by.now.items
