-- The ends of a link that are compared on one thread, by what is told of them.
use Rattle.std.specs.Prelude.{ℕ, ◌≡◌, ◌≢◌, ◌⊎◌, true, false, List, [], ◌++◌, Option, None, Some}
use Rattle.sock_io.specs.declared.ending.Ending.TheVariants as ending
use Rattle.sock_io.specs.declared.link.LinkSpec.{LinkSpec}
use Rattle.sock_io.specs.LinkHalves.{OutState, InState, Offer, IsServed, offered_by}
use Rattle.sock_io.specs.Peer.{PeerState}

-- they are the halves and the other end of one link: each way leads from the one to the other
abbrev pub AreEnds : OutState → PeerState → InState → Type 0
AreEnds out peer inn = (out.way ≡ peer.way_in) × (peer.way_out ≡ inn.way)

-- an other end is what was asked for
abbrev pub IsAskedPeer : LinkSpec → PeerState → Type 0
IsAskedPeer spec peer = peer.present ≡ true → (peer.serve ≡ spec.shape.serve) × (peer.end ≡ spec.shape.end)

-- of the writing half nothing changes but whether its next put isn't `Again`
abbrev pub MeetOut : OutState → OutState → Type 0
MeetOut old new = new ≡ record old { clear = new.clear }

-- What is found of an offer that wasn't known: it is what the other end was asked for, and belongs to what the link took and gave; and where the
-- reading half answered its end or its closing, nothing waits and that stands there.
pub record IsFound (out : OutState) (peer : PeerState) (inn : InState) (o : Offer) : Type 0 where
  pub serve : o.serve ≡ peer.serve
  pub end : o.end ≡ peer.end
  pub served : (took gave : List ℕ) → out.took ≡ Some took → inn.gave_bytes ≡ Some gave → IsServed took out.finished gave o
  pub ended : inn.gave_end ≡ true → (o.waiting ≡ []) × (o.ending ≡ ending.Ended)
  pub closed : inn.closed ≡ Some true → (o.waiting ≡ []) × (o.ending ≡ ending.Closed)

-- an offer that was known stays
abbrev pub OffersFound : OutState → PeerState → InState → Option Offer → Option Offer → Type 0
OffersFound out peer inn (Some o) new = new ≡ Some o
OffersFound out peer inn None None = Unit {0}
OffersFound out peer inn None (Some o) = IsFound out peer inn o

-- Over a way that is known all that was offered is found once the reading half answered its end or its closing, unless memory was wanting for the other end.
abbrev pub FindsAll : PeerState → InState → InState → Type 0
FindsAll peer old new = old.way ≢ [] → peer.starved ≡ false → (old.gave_end ≡ true) ⊎ (old.closed ≡ Some true) → new.offer ≢ None

-- a link that took and gave these bytes gave a front of what its other end gives for a front of what it took
pub record IsFront (peer : PeerState) (took gave : List ℕ) : Type 0 where
  pub offer : Offer
  pub serve : offer.serve ≡ peer.serve
  pub end : offer.end ≡ peer.end
  pub left : List ℕ
  pub begins : took ≡ offer.fed ++ left
  pub rest : List ℕ
  pub offered : gave ++ rest ≡ offered_by offer offer.fed

-- so does one over a known way, whatever its reading half answered, unless memory was wanting for the other end
abbrev pub GaveFront : OutState → PeerState → InState → Type 0
GaveFront out peer inn = inn.way ≢ [] → peer.starved ≡ false → (took gave : List ℕ) → out.took ≡ Some took → inn.gave_bytes ≡ Some gave → IsFront peer took gave

-- of the reading half nothing changes but what its other end offers; and what the link gave is known to be a front
pub record MeetStep (out : OutState) (peer : PeerState) (old new : InState) : Type 0 where
  pub same : new ≡ record old { offer = new.offer }
  pub offer : OffersFound out peer old old.offer new.offer
  pub all : FindsAll peer old new
  pub front : GaveFront out peer old
