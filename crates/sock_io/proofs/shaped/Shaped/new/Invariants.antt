use Rattle.std.proofs.Common.{[]}
use Rattle.sock_io.proofs.shaped.Shaped.new.Given as goal

abbrev pub ghost-of : goal.ghost-of
ghost-of g a = []
