use Rattle.std.proofs.Common.{[]}
use Rattle.ring_link.proofs.ring_in.RingIn.new.Given as goal

abbrev pub ghost-of : goal.ghost-of
ghost-of a = []

abbrev pub ghost-of-2 : goal.ghost-of-2
ghost-of-2 a = []
