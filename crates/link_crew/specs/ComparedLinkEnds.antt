-- The ends of links that were compared.
use Rattle.std.specs.Prelude.{◌≡◌, ◌<◌, ℕ, List, slice_index_or}
use Rattle.sock_io.specs.declared.link.Ends.{Ends}
use Rattle.sock_io.specs.LinkHalves.{OutState, InState}
use Rattle.sock_io.specs.MeetingOnOneThread.{MeetOut, MeetStep}
use Rattle.sock_io.specs.Peer.{PeerState}

module _ {O I P : Type 0} (of_out : O → OutState) (of_peer : P → PeerState) (of_inn : I → InState) where
  -- those of a link: nothing changed but what its other end offers, as far as that became known
  pub record HasMet (old new : Ends O I P) : Type 0 where
    pub out : MeetOut (of_out old.out) (of_out new.out)
    pub peer : of_peer new.peer ≡ of_peer old.peer
    pub inn : MeetStep (of_out old.out) (of_peer old.peer) (of_inn old.inn) (of_inn new.inn)

  -- those of the links of these numbers
  abbrev pub MetBelow : ℕ → List (Ends O I P) → List (Ends O I P) → Type 0
  MetBelow n old new = (k : ℕ) (d : Ends O I P) → k < n → HasMet (slice_index_or old k d) (slice_index_or new k d)
