use Rattle.std.proofs.Common.{◌∷◌, []}
use Rattle.ring_link.proofs.ring_in.RingIn.learn.Given as goal

abbrev pub ghost-of : goal.ghost-of
ghost-of a = a.by.now.inn ∷ []
