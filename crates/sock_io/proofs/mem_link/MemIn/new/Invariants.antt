use Rattle.std.proofs.Common.{[]}
use Rattle.sock_io.proofs.mem_link.MemIn.new.Given as goal

abbrev pub ghost-of : goal.ghost-of
ghost-of a = []
