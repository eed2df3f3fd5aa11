-- The writing half of a link over TCP, or of a connection, by what callers see of it.
use Rattle.sock_io.specs.LinkHalves.{OutState}
use Rattle.sock_io.specs.ShapeOfPuts.{shaped_out}
use Rattle.net_link.specs.declared.tcp_half.TcpHalf.{TcpHalf}
use Rattle.net_link.specs.declared.tcp_half.TcpHalf.TheVariants.{Opened, Accepted}
use Rattle.net_link.specs.NetworkLinkHalves.{tcp_out}

-- that of a link tells all that it took and answered, that of a connection neither
abbrev pub tcp_half : TcpHalf → OutState
tcp_half (Opened out) = shaped_out out
tcp_half (Accepted out) = tcp_out out
