use Rattle.std.proofs.Common.{◌∷◌}
use Rattle.write_chain.proofs.hand.called.Given as goal

abbrev pub ghost-of : goal.ghost-of
ghost-of a = a.by.now.list

abbrev pub ghost-of-2 : goal.ghost-of-2
ghost-of-2 a = a.by.now.1 ∷ a.by.now.0.list
