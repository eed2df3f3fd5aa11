-- What is asked of a link over TCP.
use Rattle.std.specs.Prelude.{ℕ, Bool, true, false, []}
use Rattle.sock_io.specs.declared.link.Mode.{Mode}
use Rattle.sock_io.specs.declared.link.Mode.TheVariants as mode
use Rattle.sock_io.specs.sock_words.specs.declared.shape.Shape.{Shape}
use Rattle.sock_io.specs.ShapeOfPuts.{ShapedState}
use Rattle.net_link.specs.NetworkLinkHalves.{new_out, tcp_out}

-- whether a link is to go over TCP
abbrev pub is_tcp : Mode → Bool
is_tcp mode.Loop = false
is_tcp mode.Ring = false
is_tcp (mode.Tcp port) = true

-- a half of this shape over TCP that took nothing yet
abbrev pub new_half : ℕ → Shape → ShapedState
new_half link shape = record { inner = tcp_out (new_out link); shape = shape; puts = 0; paused = false; taken = []; faults = 0; answers = [] }
