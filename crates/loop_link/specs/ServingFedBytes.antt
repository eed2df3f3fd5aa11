-- What the built-in server of a link gives for the bytes that it was fed, and what a link over it has been offered.
use Rattle.std.specs.Prelude.{ℕ, ◌≡◌, ◌-◌, ◌≤◌, ◌⊎◌, ◌&&◌, ◌||◌, nat_le, Bool, true, false, if◌then◌else◌, List, [], ◌++◌, length, take, flat_map, Option, None, Some}
use Rattle.brpc_model.specs.Frame.{Frame, frame_bytes}
use Rattle.brpc_model.specs.Reply.{reply_frames}
use Rattle.brpc_model.specs.ServedForTakenBytes.{first_of}
use Rattle.sock_io.specs.declared.ending.Ending.{Ending}
use Rattle.sock_io.specs.declared.ending.Ending.TheVariants as ending
use Rattle.sock_io.specs.LinkHalves.{InState, Offer, IsServed}
use Rattle.sock_io.specs.LinksInMemory.{MemInState, empty_in, is_closing, is_open, mem_in}
use Rattle.rpc_server.specs.HeldByConnection.{Held}
use Rattle.rpc_server.specs.Feeding.{has_fault, Replied}

-- the other end of a link: whether it is the server, after how many responses that gives its end, and all bytes of the link
-- that it was fed
pub record LoopPeerState : Type 0 where
  pub serve : Bool
  pub end : Option ℕ
  pub fed : List ℕ

-- so many responses are all that are given
abbrev pub is_reached : Option ℕ → ℕ → Bool
is_reached None made = false
is_reached (Some most) made = nat_le most made

-- what the server gives for these bytes: the replies, up to the number that is given
abbrev pub replies_for : Option ℕ → List ℕ → List ℕ
replies_for end bytes = flat_map frame_bytes (first_of end (reply_frames bytes))

-- and whether it gives its end for them: that number was reached, or they have a fault
abbrev pub ends_for : Option ℕ → List ℕ → Bool
ends_for end bytes = is_reached end (length (reply_frames bytes)) || has_fault bytes

-- an other end that isn't the server gives nothing
abbrev pub offered_for : LoopPeerState → List ℕ → List ℕ
offered_for peer bytes = if peer.serve then replies_for peer.end bytes else []

abbrev pub gives_end : LoopPeerState → List ℕ → Bool
gives_end peer bytes = peer.serve && ends_for peer.end bytes

abbrev pub is_ended : Ending → Bool
is_ended ending.Ended = true
is_ended other = false

-- what stands behind the bytes: the end, where it is given; and where it isn't, the closing once the link was finished
abbrev pub ending_for : (ended finished : Bool) → Ending
ending_for true finished = ending.Ended
ending_for false true = ending.Closed
ending_for false false = ending.Open

-- ## A link

-- What was offered to a link that took these bytes, of which `given` were taken and `waiting` wait, is what the other end
-- gives for the bytes that it was fed, and they stand first in what the link took. Behind that stands its end, exactly
-- where it gives one; and it closes only where all was fed.
pub record IsOffered (took : List ℕ) (inn : MemInState) (peer : LoopPeerState) : Type 0 where
  pub left : List ℕ
  pub begins : took ≡ peer.fed ++ left
  pub offered : inn.given ++ inn.waiting ≡ offered_for peer peer.fed
  pub ended : is_ended inn.ending ≡ gives_end peer peer.fed
  pub closed : inn.ending ≡ ending.Closed → left ≡ []

-- The reading half of a link, with its other end.
pub record LoopInState : Type 0 where
  pub half : MemInState
  pub peer : LoopPeerState

-- what that offers, as callers see it
abbrev pub offer_of : LoopInState → Offer
offer_of i = record { serve = i.peer.serve; end = i.peer.end; fed = i.peer.fed; waiting = i.half.waiting; ending = i.half.ending }

abbrev pub loop_in : LoopInState → InState
loop_in i = record (mem_in i.half) { offer = Some (offer_of i) }

-- a server of no response gives its end at once
abbrev pub first_ending : Bool → Option ℕ → Ending
first_ending serve end = if serve && is_reached end 0 then ending.Ended else ending.Open

-- a half whose other end was fed nothing
abbrev pub new_in : Bool → Option ℕ → LoopInState
new_in serve end = record { half = empty_in (first_ending serve end); peer = record { serve = serve; end = end; fed = [] } }

-- nothing is left to be fed to the server: the link isn't open any more, or took nothing new, or these bytes are another
-- link's
abbrev pub IsOver : LoopPeerState → List ℕ → MemInState → Type 0
IsOver peer took inn = is_open inn.ending ≡ true → length took ≤ length peer.fed

-- the end stands exactly where it is given
abbrev pub IsSteady : LoopPeerState → MemInState → Type 0
IsSteady peer inn = is_ended inn.ending ≡ gives_end peer peer.fed

-- the reading half told how it went on behind its bytes: with the end, or the closing
abbrev pub HasTold : MemInState → Type 0
HasTold inn = (inn.gave_end ≡ true) ⊎ (inn.closed ≡ true)

-- it tells of either once all bytes were taken
abbrev pub IsTold : MemInState → Type 0
IsTold inn = HasTold inn → (is_open inn.ending ≡ false) × (inn.waiting ≡ [])

-- What an answer to what a link took may change; and where the link was offered what belongs to what was fed before, all
-- is fed now, or the end stands behind what was fed.
pub record Answers (old : LoopPeerState) (took : List ℕ) (inn : MemInState) (new : LoopPeerState) (inn' : MemInState) : Type 0 where
  pub serve : new.serve ≡ old.serve
  pub end : new.end ≡ old.end
  pub half : inn' ≡ record inn { waiting = inn'.waiting; ending = inn'.ending }
  pub closing : is_closing inn'.ending ≡ is_closing inn.ending
  pub idle : old.serve ≡ false → inn' ≡ inn
  pub shut : is_open inn.ending ≡ false → inn' ≡ inn
  pub steady : IsSteady old inn → IsSteady new inn'
  pub all : IsOffered took inn old → ((new.fed ≡ took) ⊎ (is_ended inn'.ending ≡ true)) × IsOffered took inn' new

-- A link that took these bytes was offered what the other end gives for all of them, and the end or the closing stands behind
-- it where it belongs.
pub record Settled (took : List ℕ) (finished : Bool) (i : LoopInState) : Type 0 where
  pub offered : i.half.given ++ i.half.waiting ≡ offered_for i.peer took
  pub ending : i.half.ending ≡ ending_for (gives_end i.peer took) finished
  pub served : IsServed took finished i.half.given (offer_of i)

-- ## The server

-- what a connection holds and made, that was fed these bytes
pub record Follows (fed : List ℕ) (c : Held) : Type 0 where
  pub made : c.made ≡ length (reply_frames fed)
  pub goes_on : (more : List ℕ) → reply_frames (fed ++ more) ≡ reply_frames fed ++ reply_frames (c.bytes ++ more)
  pub faults : (more : List ℕ) → has_fault (fed ++ more) ≡ has_fault (c.bytes ++ more)

-- a piece was fed, and was answered with a frame fault where that says so
pub record Goes (c : Held) (piece : List ℕ) (c' : Held) (before now : List ℕ) (faulty : Bool) : Type 0 where
  pub replied : Replied c piece c' before now
  pub fault : faulty ≡ has_fault (c.bytes ++ piece)

-- these are the bytes of the replies that came to those before
abbrev pub NewReplies : List ℕ → List ℕ → List ℕ → Type 0
NewReplies fed piece bytes = (frames : List Frame) × (reply_frames (fed ++ piece) ≡ reply_frames fed ++ frames) × (bytes ≡ flat_map frame_bytes frames)

-- behind so many responses these are the ones that are still given
abbrev pub first_left : Option ℕ → ℕ → List Frame → List Frame
first_left None given frames = frames
first_left (Some most) given frames = take (most - given) frames
