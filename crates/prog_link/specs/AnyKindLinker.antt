-- A linker of links of any kind, by what callers see of it.
use Rattle.std.specs.Prelude.{ℕ, ◌≡◌, ◌≢◌, ◌+◌, ◌&&◌, if◌then◌else◌, Bool, true, false, List, [], ◌∷◌, Option, None, Some, IfSome}
use Rattle.sock_io.specs.declared.link.LinkSpec.{LinkSpec}
use Rattle.sock_io.specs.declared.link.Mode.{Mode}
use Rattle.sock_io.specs.declared.link.Mode.TheVariants as mode
use Rattle.sock_io.specs.sock_words.specs.declared.shape.Shape.{Shape}
use Rattle.sock_io.specs.LinkHalves.{IsFresh, IsNewOffer, new_pacing}
use Rattle.sock_io.specs.MeetingOnOneThread.{AreEnds, IsAskedPeer}
use Rattle.sock_io.specs.Peer.{IsNewPeer}
use Rattle.net_link.specs.declared.tcp_half.TcpHalf.TheVariants.{Opened, Accepted}
use Rattle.prog_link.specs.declared.prog_out.ProgOut.{ProgOut}
use Rattle.prog_link.specs.declared.prog_out.ProgOut.TheVariants as out
use Rattle.prog_link.specs.declared.prog_in.ProgIn.{ProgIn}
use Rattle.prog_link.specs.declared.prog_in.ProgIn.TheVariants as inn
use Rattle.prog_link.specs.declared.prog_peer.ProgPeer.{ProgPeer}
use Rattle.prog_link.specs.AnyLinkHalves.{prog_in, prog_out, prog_peer}

-- ## Kinds of links

pub data Kind : Type 0 where
  InMemory : Kind
  OverRings : Kind
  OverTcp : Kind

abbrev pub kind_asked : Mode → Kind
kind_asked mode.Loop = InMemory
kind_asked mode.Ring = OverRings
kind_asked (mode.Tcp port) = OverTcp

-- links over rings alone have other ends inside this process that tell what they offered
abbrev pub tells_in_mode : Mode → Bool
tells_in_mode mode.Loop = false
tells_in_mode mode.Ring = true
tells_in_mode (mode.Tcp port) = false

abbrev pub is_kind : Kind → Kind → Bool
is_kind InMemory InMemory = true
is_kind InMemory OverRings = false
is_kind InMemory OverTcp = false
is_kind OverRings InMemory = false
is_kind OverRings OverRings = true
is_kind OverRings OverTcp = false
is_kind OverTcp InMemory = false
is_kind OverTcp OverRings = false
is_kind OverTcp OverTcp = true

-- links in memory alone answer each put as the shape says that was asked for: the halves inside the other ones may take less
abbrev pub goes_by_shape_in_mode : Mode → Bool
goes_by_shape_in_mode asked = is_kind InMemory (kind_asked asked)

-- whether each of these links was asked to be of this kind
abbrev pub are_kind : Kind → List LinkSpec → Bool
are_kind k [] = true
are_kind k (s ∷ more) = is_kind k (kind_asked s.mode) && are_kind k more

-- and how many were
abbrev pub count_kind : Kind → List LinkSpec → ℕ
count_kind k [] = 0
count_kind k (s ∷ more) = (if is_kind k (kind_asked s.mode) then 1 else 0) + count_kind k more

abbrev pub kind_out : ProgOut → Kind
kind_out (out.Loop half) = InMemory
kind_out (out.Ring half) = OverRings
kind_out (out.Tcp half) = OverTcp

abbrev pub kind_in : ProgIn → Kind
kind_in (inn.Loop half) = InMemory
kind_in (inn.Ring half) = OverRings
kind_in (inn.Tcp half) = OverTcp

-- the shape of a link; a connection has none
abbrev pub shape_out : ProgOut → Option Shape
shape_out (out.Loop half) = Some half.shape
shape_out (out.Ring half) = Some half.shape
shape_out (out.Tcp (Opened half)) = Some half.shape
shape_out (out.Tcp (Accepted half)) = None

-- The ends of a link that was opened just now: its halves are of the kind and the shape that were asked for, have this number, and took, gave and
-- answered nothing; nor did its other end, which is what was asked for, and belongs to them; over rings what that offers is told later; and a link in memory
-- answers its puts as the shape says, and never asks to be called again.
pub record IsOpened (number : ℕ) (spec : LinkSpec) (out : ProgOut) (peer : ProgPeer) (inn : ProgIn) : Type 0 where
  pub kind : (kind_out out ≡ kind_asked spec.mode) × (kind_in inn ≡ kind_asked spec.mode)
  pub shape : shape_out out ≡ Some spec.shape
  pub fresh : IsFresh (prog_out out) (prog_in inn) number
  pub unused : IsNewPeer (prog_peer peer)
  pub offer : IfSome (prog_in inn).offer (λ o. IsNewOffer spec o)
  pub one : AreEnds (prog_out out) (prog_peer peer) (prog_in inn)
  pub other : IsAskedPeer spec (prog_peer peer)
  pub tells : tells_in_mode spec.mode ≡ true → ((prog_in inn).way ≢ []) × ((prog_in inn).offer ≡ None) × ((prog_peer peer).present ≡ true)
  pub shaped : goes_by_shape_in_mode spec.mode ≡ true → (prog_out out).pacing ≡ Some (new_pacing spec)
  pub always_ready : spec.mode ≡ mode.Loop → (prog_out out).always_ready ≡ true
