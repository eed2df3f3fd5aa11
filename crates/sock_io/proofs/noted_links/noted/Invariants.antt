use Rattle.std.proofs.Common.{◌++◌, ◌∷◌, []}
use Rattle.sock_io.proofs.noted_links.noted.Given as goal

abbrev pub ghost-of : goal.ghost-of
ghost-of g a = a.by.now.list

abbrev pub ghost-of-2 : goal.ghost-of-2
ghost-of-2 g a = a.by.now.0.list ++ a.by.now.1 ∷ []
