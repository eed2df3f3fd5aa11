-- Comparing the ends of a link over TCP finds nothing more.
use Rattle.std.proofs.Common.{refl}
use Rattle.sock_io.specs.LinkHalves.{OutState}
use Rattle.sock_io.specs.MeetingOnOneThread.{MeetStep}
use Rattle.sock_io.specs.Peer.{PeerState}
use Rattle.sock_io.proofs.HalvesKeepOffers as offers
use Rattle.net_link.specs.NetworkLinkHalves.{TcpInState, tcp_in}

pub met_nothing : (out : OutState) (peer : PeerState) (i : TcpInState) → MeetStep out peer (tcp_in i) (tcp_in i)
met_nothing out peer i = offers.met_nothing out peer (tcp_in i) refl
