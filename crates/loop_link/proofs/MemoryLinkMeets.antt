-- Comparing the ends of a link in memory finds nothing more.
use Rattle.std.proofs.Common.{refl}
use Rattle.sock_io.specs.LinkHalves.{OutState}
use Rattle.sock_io.specs.MeetingOnOneThread.{MeetStep}
use Rattle.sock_io.specs.Peer.{PeerState}
use Rattle.sock_io.proofs.HalvesKeepOffers as offers
use Rattle.loop_link.specs.ServingFedBytes.{LoopInState, loop_in}

pub met_nothing : (out : OutState) (peer : PeerState) (i : LoopInState) → MeetStep out peer (loop_in i) (loop_in i)
met_nothing out peer i = offers.met_nothing out peer (loop_in i) refl
