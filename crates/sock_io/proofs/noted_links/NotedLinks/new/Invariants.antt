use Rattle.std.proofs.Common.{[]}
use Rattle.sock_io.proofs.noted_links.NotedLinks.new.Given as goal

abbrev pub ghost-of : goal.ghost-of
ghost-of g a = []

abbrev pub ghost-of-2 : goal.ghost-of-2
ghost-of-2 g a = []

abbrev pub ghost-of-3 : goal.ghost-of-3
ghost-of-3 g a = []
