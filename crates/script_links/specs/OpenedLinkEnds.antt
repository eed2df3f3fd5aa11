-- The ends of links that were opened, each by what was asked of it.
use Rattle.std.specs.Prelude.{◌≡◌, ◌≢◌, Bool, true, List, [], ◌∷◌, None}
use Rattle.sock_io.specs.declared.link.Ends.{Ends}
use Rattle.sock_io.specs.declared.link.LinkSpec.{LinkSpec}
use Rattle.sock_io.specs.declared.link.Mode.{Mode}
use Rattle.sock_io.specs.LinkHalves.{OutState, InState}
use Rattle.sock_io.specs.MeetingOnOneThread.{AreEnds, IsAskedPeer}
use Rattle.sock_io.specs.Peer.{PeerState, IsNewPeer}

module _ {O I P : Type 0} (tells_in : Mode → Bool) (out : O → OutState) (peer : P → PeerState) (inn : I → InState) where
  -- They are those of one link, and its other end is a new one that is what was asked for. In a mode that tells later what a link was offered, the
  -- way of its bytes is known, and what it is offered isn't yet
  pub record IsOpened (spec : LinkSpec) (e : Ends O I P) : Type 0 where
    pub one : AreEnds (out e.out) (peer e.peer) (inn e.inn)
    pub new : IsNewPeer (peer e.peer)
    pub asked : IsAskedPeer spec (peer e.peer)
    pub tells : tells_in spec.mode ≡ true → ((inn e.inn).way ≢ []) × ((inn e.inn).offer ≡ None) × ((peer e.peer).present ≡ true)

  -- each of which this was asked, in order
  abbrev pub AreOpened : List LinkSpec → List (Ends O I P) → Type 0
  AreOpened [] [] = Unit {0}
  AreOpened (s ∷ ss) (e ∷ es) = IsOpened s e × AreOpened ss es
  AreOpened [] (e ∷ es) = ⊥
  AreOpened (s ∷ ss) [] = ⊥
