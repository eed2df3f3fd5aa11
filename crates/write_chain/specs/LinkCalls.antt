-- What whoever has a message in hand did with its link. Of its calls the last stands first.
use Rattle.std.specs.Prelude.{◌≡◌, true, List, [], ◌∷◌, ◌++◌}
use Rattle.brpc_model.specs.ReturnedLink.{HalfAnswer}
use Rattle.sock_io.specs.declared.link.Put.TheVariants as puts
use Rattle.sock_io.specs.declared.link.Ready.TheVariants as ready
use Rattle.sock_io.specs.LinkHalves.{OutState, more_told, of_put, of_ready}
use Rattle.write_chain.specs.declared.right.LinkCall.{LinkCall}
use Rattle.write_chain.specs.declared.right.LinkCall.TheVariants as call

-- what the half answered at these calls, in order
abbrev pub answers_of : List LinkCall → List HalfAnswer
answers_of [] = []
answers_of (call.Looked live ∷ calls) = answers_of calls
answers_of (call.Put answer ∷ calls) = answers_of calls ++ of_put answer ∷ []
answers_of (call.Asked answer ∷ calls) = answers_of calls ++ of_ready answer ∷ []

-- the last of them is a look that found the life live
abbrev pub FoundLive : List LinkCall → Type 0
FoundLive (call.Looked true ∷ calls) = Unit {0}
FoundLive other = ⊥

-- at none of them the link failed
abbrev pub NoneFailed : List LinkCall → Type 0
NoneFailed [] = Unit {0}
NoneFailed (call.Put puts.Failed ∷ calls) = ⊥
NoneFailed (call.Asked ready.Failed ∷ calls) = ⊥
NoneFailed (other ∷ calls) = NoneFailed calls

-- a put may follow: it spends the look before it, and behind a failure there is none
abbrev pub MayPut : List LinkCall → Type 0
MayPut calls = FoundLive calls × NoneFailed calls

-- each put among them came right behind a look of its own that found the life live, and none behind a failure
abbrev pub PutsBehindLooks : List LinkCall → Type 0
PutsBehindLooks [] = Unit {0}
PutsBehindLooks (call.Put answer ∷ calls) = MayPut calls × PutsBehindLooks calls
PutsBehindLooks (other ∷ calls) = PutsBehindLooks calls

-- a half that came into hand as the one that is told has answered since just what these calls say, so that there was no other put
pub record IsTurn {O : Type 0} (state : O → OutState) (came : List O) (out : O) (calls : List LinkCall) : Type 0 where
  pub from : O
  pub came_is : came ≡ from ∷ []
  pub answered : (state out).answers ≡ more_told (state from).answers (answers_of calls)
  pub puts : PutsBehindLooks calls
