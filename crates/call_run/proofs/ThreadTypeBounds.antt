-- What a closure needs to know of a type parameter that is sent to its thread: that a value of which nothing is seen leaves no key behind.
use base.Shift.{Keyless}
use denote.Exit.{if_kept, unseen, Last, left}
use Rattle.std.proofs.Common.{Bool, true, false}

pub unseen_quiet : {D : Type 0} (b : Bool) (x : D) (w : Last (if_kept b (unseen {D = D}) (unseen {D = D})) x) → Keyless (left (if_kept b (unseen {D = D}) (unseen {D = D})) x w)
unseen_quiet true x w = tt
unseen_quiet false x w = tt
