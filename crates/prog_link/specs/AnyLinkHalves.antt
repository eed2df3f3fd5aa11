-- The halves of a link of any kind, and its other end, by what callers see of them.
use Rattle.sock_io.specs.LinkHalves.{OutState, InState}
use Rattle.sock_io.specs.Peer.{PeerState, no_peer}
use Rattle.sock_io.specs.ShapeOfPuts.{shaped_out}
use Rattle.loop_link.specs.ServingFedBytes.{loop_in}
use Rattle.ring_link.specs.RingHalves.{ring_in, ring_peer}
use Rattle.net_link.specs.NetworkLinkHalves.{tcp_in}
use Rattle.net_link.specs.NetworkWritingHalf.{tcp_half}
use Rattle.prog_link.specs.declared.prog_out.ProgOut.{ProgOut}
use Rattle.prog_link.specs.declared.prog_out.ProgOut.TheVariants as out
use Rattle.prog_link.specs.declared.prog_in.ProgIn.{ProgIn}
use Rattle.prog_link.specs.declared.prog_in.ProgIn.TheVariants as inn
use Rattle.prog_link.specs.declared.prog_peer.ProgPeer.{ProgPeer}
use Rattle.prog_link.specs.declared.prog_peer.ProgPeer.TheVariants as peer

-- each is as the half inside
abbrev pub prog_out : ProgOut → OutState
prog_out (out.Loop half) = shaped_out half
prog_out (out.Ring half) = shaped_out half
prog_out (out.Tcp half) = tcp_half half

abbrev pub prog_in : ProgIn → InState
prog_in (inn.Loop half) = loop_in half
prog_in (inn.Ring half) = ring_in half
prog_in (inn.Tcp half) = tcp_in half

abbrev pub prog_peer : ProgPeer → PeerState
prog_peer (peer.Absent none) = no_peer
prog_peer (peer.Ring other) = ring_peer other
