-- The other end of a link, from the first call that served it to the last.
use Rattle.std.specs.Prelude.{◌≡◌, ◌⊎◌, Bool, true, false, List, [], ◌∷◌, Result, Ok, Err}
use Rattle.sock_io.specs.declared.ending.Ending.TheVariants as ending
use Rattle.sock_io.specs.declared.link.Served.{Served}
use Rattle.sock_words.specs.declared.memory.NoMemory.{NoMemory}
use Rattle.sock_io.specs.Peer.{PeerState, Moved, ServeStep, is_done}

-- calls that served it, one behind the other, by what each answered
abbrev pub Serves : List (Result Served NoMemory) → PeerState → PeerState → Type 0
Serves [] s t = t ≡ s
Serves (x ∷ xs) s t = (m : PeerState) × ServeStep s x m × Serves xs m t

-- memory was wanting for one of them
abbrev pub lacks : List (Result Served NoMemory) → Bool
lacks [] = false
lacks (Ok s ∷ xs) = lacks xs
lacks (Err e ∷ xs) = true

-- it is there, and gave its end for want of memory
abbrev pub IsStarved : PeerState → Type 0
IsStarved peer = (peer.present ≡ true) × (peer.ending ≡ ending.Ended)

-- so far: the calls, what came and went by them, if anything did, and whether memory was wanting; where it never was, it is told so still
pub record ServedOn (short : Bool) (old new : PeerState) : Type 0 where
  pub answers : List (Result Served NoMemory)
  pub steps : Serves answers old new
  pub told : short ≡ lacks answers
  pub moved : (new ≡ old) ⊎ Moved old new
  pub starved : short ≡ true → IsStarved new
  pub calm : short ≡ false → new.starved ≡ old.starved

-- the same of all calls, behind which nothing will be moved any more
pub record ServedToEnd (short : Bool) (old new : PeerState) : Type 0 where
  pub answers : List (Result Served NoMemory)
  pub steps : Serves answers old new
  pub told : short ≡ lacks answers
  pub moved : Moved old new
  pub done : is_done new ≡ true
  pub starved : short ≡ true → IsStarved new
  pub calm : short ≡ false → new.starved ≡ old.starved
