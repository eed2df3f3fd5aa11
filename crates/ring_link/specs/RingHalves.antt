-- The two ends of a ring, and the halves of a link over two of them, by what callers see.
use Rattle.std.specs.Prelude.{ℕ, ◌≡◌, ◌≢◌, nat_lt, Bool, true, false, List, ◌++◌, ◌∷◌, [], length, None, Some}
use denote.RawPtr.{Ptr, block_ptr, null_ptr, block_of, count_of}
use Rattle.std.specs.declared.alloc.Global.{Global}
use Rattle.sock_io.specs.declared.ending.Ending.{Ending}
use Rattle.sock_io.specs.declared.ending.Ending.TheVariants as ending
use Rattle.sock_io.specs.LinkHalves.{OutState, InState, given_of}
use Rattle.sock_io.specs.Peer.{PeerState, has_ended}
use Rattle.sock_io.specs.declared.link.Take.{Take}
use Rattle.sock_io.specs.declared.link.Take.TheVariants as take_
use Rattle.brpc_model.specs.ReturnedLink.{TakeAnswer}
use Rattle.rtrb.specs.Shared.{Names}
use Rattle.rtrb.specs.declared.end.End.{End}
use Rattle.loop_link.specs.ServingFedBytes.{LoopInState}
use Rattle.ring_link.specs.Cells.{IsOpen}
use Rattle.ring_link.specs.InsideRingLink.{InnerState, IsServing, SameAsked, inner_gave, offer_met}
use Rattle.ring_link.specs.declared.cell.Cell.{Cell}
use Rattle.ring_link.specs.declared.cell.MarkLast.{MarkLast}

-- which ring it is
abbrev pub Ring : Type 0
Ring = (Ptr × Ptr) × (Names × Global)

abbrev pub ring_of : End Cell Global MarkLast → Ring
ring_of e = ((e.words, e.slots), (e.names, e.heap))

-- which ring it is, in numbers: two rings have the same ones only where they are one
abbrev pub kind_of : Ptr → ℕ
kind_of (block_ptr b o) = 1
kind_of null_ptr = 0

abbrev pub way_of : Ring → List ℕ
way_of r = kind_of r.0.0 ∷ block_of r.0.0 ∷ count_of r.0.0 ∷ kind_of r.0.1 ∷ block_of r.0.1 ∷ count_of r.0.1 ∷ r.1.0.0 ∷ r.1.0.1.0 ∷ r.1.0.1.1 ∷ []

-- the end that puts: all bytes that it put, the mark behind them, and how many places for bytes it knows to be free
pub record WriterState : Type 0 where
  pub ring : Ring
  pub bytes : List ℕ
  pub ending : Ending
  pub places : ℕ

-- the end that takes: all bytes that it took, the mark that it took behind them, and what it has seen of what comes next
pub record ReaderState : Type 0 where
  pub ring : Ring
  pub bytes : List ℕ
  pub ending : Ending
  pub seen : List Cell

-- the writing half of a link: its number, its end of the ring, and whether its last put answered `Again`
pub record RingOutState : Type 0 where
  pub link : ℕ
  pub writer : WriterState
  pub again : Bool

-- it keeps none of its bytes, and so tells none
abbrev pub ring_out : RingOutState → OutState
ring_out o = record { link = o.link; took = None; put_bytes = Some o.writer.bytes; way = way_of o.writer.ring; faults = 0; finished = has_ended o.writer.ending; clear = nat_lt 0 o.writer.places; always_ready = false; again = o.again; steady = true; whole = false; pacing = None; answers = None }

-- the same as the wrapper tells it that keeps what was put
abbrev pub told_out : RingOutState → OutState
told_out o = record (ring_out o) { took = Some o.writer.bytes }

-- the reading half of a link: its end of the ring, whether it answered `End` or `Closed`, all that it answered, and what it knows of its other end
pub record RingInState : Type 0 where
  pub reader : ReaderState
  pub gave_end : Bool
  pub closed : Bool
  pub takes : List TakeAnswer
  pub met : List LoopInState

abbrev pub ring_in : RingInState → InState
ring_in i = record { gave = length i.reader.bytes; gave_end = i.gave_end; closed = Some i.closed; faults = 0; gave_bytes = Some i.reader.bytes; takes = Some i.takes; closing = None; offer = offer_met i.met i.reader.ending; way = way_of i.reader.ring }

-- the other end of a link: its end of the ring from the link, and of the ring to it; the link in memory behind it, to which it hands what comes;
-- and whether memory was wanting
pub record RingPeerState : Type 0 where
  pub reader : ReaderState
  pub writer : WriterState
  pub inner : InnerState
  pub starved : Bool

-- no call changes which rings they are, nor what it was asked to be
abbrev pub SameRings : RingPeerState → RingPeerState → Type 0
SameRings old new = (new.reader.ring ≡ old.reader.ring) × (new.writer.ring ≡ old.writer.ring) × SameAsked old.inner new.inner

abbrev pub ring_peer : RingPeerState → PeerState
ring_peer p = record { present = true; serve = p.inner.inn.peer.serve; end = p.inner.inn.peer.end; way_in = way_of p.reader.ring; way_out = way_of p.writer.ring; took = length p.reader.bytes; took_bytes = Some p.reader.bytes; saw_finish = has_ended p.reader.ending; gave = length p.writer.bytes; gave_bytes = Some p.writer.bytes; ending = p.writer.ending; starved = p.starved }

-- the mark that is given at this answer of the link behind
abbrev pub mark_at : Take → Ending
mark_at (take_.Took n) = ending.Open
mark_at take_.Empty = ending.Open
mark_at take_.End = ending.Ended
mark_at take_.Closed = ending.Closed
mark_at take_.Failed = ending.Open

-- What was taken stands first in what was put; and where the mark was taken, all was.
pub record IsTakenOf (r : ReaderState) (w : WriterState) : Type 0 where
  pub left : List ℕ
  pub begins : w.bytes ≡ r.bytes ++ left
  pub marked : r.ending ≢ ending.Open → (w.ending ≡ r.ending) × (left ≡ [])

-- What a take of the end that takes gave and answered: bytes in front of the room, behind those before; nothing only where nothing was seen; or the mark.
pub record TakesCells (old new : ReaderState) (room : List ℕ) (result : Take) : Type 0 where
  pub ring : new.ring ≡ old.ring
  pub bytes : new.bytes ≡ old.bytes ++ given_of room result
  pub empty : result ≡ take_.Empty → (IsOpen new.ending) × (new.seen ≡ [])
  pub end : result ≡ take_.End → new.ending ≡ ending.Ended
  pub closed : result ≡ take_.Closed → new.ending ≡ ending.Closed

-- the two ends of a new ring
pub record IsNewRing (w : WriterState) (r : ReaderState) : Type 0 where
  pub ring : w.ring ≡ r.ring
  pub writer : w ≡ record { ring = w.ring; bytes = []; ending = ending.Open; places = 65536 }
  pub reader : r ≡ record { ring = r.ring; bytes = []; ending = ending.Open; seen = [] }

-- Where memory wasn't wanting: what went out is what the link behind gave; what came in is what that took, and behind an end maybe more; and a mark
-- that went out is that which the link behind gave behind all its bytes. What that offers belongs to it.
pub record Repeats (l : InnerState) (r : ReaderState) (w : WriterState) : Type 0 where
  pub served : IsServing l
  pub gave : w.bytes ≡ inner_gave l
  pub rest : List ℕ
  pub took : r.bytes ≡ l.took ++ rest
  pub goes_on : w.ending ≡ ending.Open → rest ≡ []
  pub ended : w.ending ≡ ending.Ended → (l.inn.half.waiting ≡ []) × (l.inn.half.ending ≡ ending.Ended)
  pub closed : w.ending ≡ ending.Closed → (l.inn.half.waiting ≡ []) × (l.inn.half.ending ≡ ending.Closed) × (rest ≡ []) × (has_ended r.ending ≡ true)
