-- What feeding a connection appends and leaves.
use Rattle.std.specs.Prelude.{◌≡◌, ℕ, ◌+◌, Bool, true, false, List, [], ◌∷◌, ◌++◌, length, take, flat_map, filter_map, Some, Result, Ok, Err}
use Rattle.brpc_model.specs.Frame.{Frame, FrameFault, NoneYet, judged, frame_bytes}
use Rattle.brpc_model.specs.FrameStream.{Rest, Fault, stream, is_fault}
use Rattle.brpc_model.specs.Reply.{reply, reply_frames, replies}
use Rattle.prpc_frame.specs.StreamCuts.{Cut}
use Rattle.prpc_frame.specs.FrameMeaning.{fault_of, IsFault}
use Rattle.rpc_server.specs.HeldByConnection.{Held}
use Rattle.rpc_server.specs.declared.conn.ConnFault.{ConnFault}
use Rattle.rpc_server.specs.declared.conn.ConnFault.TheVariants as fault_

-- the reply to a frame, if it has one, and its bytes
abbrev pub replies_to : Frame → List Frame
replies_to f = filter_map reply (f ∷ [])

abbrev pub reply_bytes : Frame → List ℕ
reply_bytes f = flat_map frame_bytes (replies_to f)

abbrev pub has_fault : List ℕ → Bool
has_fault bytes = is_fault (stream bytes).ending

-- ## A piece

-- the replies to the frames that became whole with the piece were appended and counted; and however the bytes go on, their replies are those and
-- the ones behind, and they have a fault where what is held then has one
pub record Replied (c : Held) (piece : List ℕ) (c' : Held) (before now : List ℕ) : Type 0 where
  pub appended : now ≡ before ++ replies (c.bytes ++ piece)
  pub counted : c'.made ≡ c.made + length (reply_frames (c.bytes ++ piece))
  pub goes_on : (more : List ℕ) → reply_frames (c.bytes ++ (piece ++ more)) ≡ reply_frames (c.bytes ++ piece) ++ reply_frames (c'.bytes ++ more)
  pub faults : (more : List ℕ) → has_fault (c.bytes ++ (piece ++ more)) ≡ has_fault (c'.bytes ++ more)

-- whatever is fed on, this fault is met
abbrev pub IsStuck : Held → FrameFault → Type 0
IsStuck c f = (more : List ℕ) → (stream (c.bytes ++ more)).ending ≡ Fault 0 f

-- what is held is the rest of a frame that isn't whole; or there is a fault, and no frame behind it; or memory ran out behind the replies to
-- some first frames. However the bytes go on behind a fault, that very fault is theirs; and it alone is answered once one was.
abbrev pub Feeds : Held → List ℕ → List ℕ → Result (Unit {0}) ConnFault → Held → List ℕ → Type 0
Feeds c piece before (Ok _) c' now = Replied c piece c' before now × ((stream (c.bytes ++ piece)).ending ≡ Rest (length c'.bytes)) × (c.told ≡ false) × (c'.told ≡ false)
Feeds c piece before (Err (fault_.Frame fault)) c' now = Replied c piece c' before now
    × ((at : ℕ) × (f : FrameFault) × (fault_of fault ≡ Some f) × ((stream (c.bytes ++ piece)).ending ≡ Fault at f) × IsStuck c' f)
    × (c'.told ≡ true)
Feeds c piece before (Err fault_.NoMemory) c' now = (n : ℕ) × (now ≡ before ++ flat_map frame_bytes (filter_map reply (take n (stream (c.bytes ++ piece)).frames))) × (c.told ≡ false)

-- ## The frames that are whole

pub record Answered (c : Held) (c' : Held) (before now : List ℕ) : Type 0 where
  pub frames : List Frame
  pub cut : Cut c.bytes frames c'.bytes
  pub appended : now ≡ before ++ flat_map frame_bytes (filter_map reply frames)
  pub counted : c'.made ≡ c.made + length (filter_map reply frames)

-- up to a frame whose reply wasn't made
pub record Stopped (c : Held) (before now : List ℕ) : Type 0 where
  pub frames : List Frame
  pub left : List ℕ
  pub cut : Cut c.bytes frames left
  pub appended : now ≡ before ++ flat_map frame_bytes (filter_map reply frames)

abbrev pub AnswersWhole : Held → List ℕ → Result (Unit {0}) ConnFault → Held → List ℕ → Type 0
AnswersWhole c before (Ok _) c' now = Answered c c' before now × (judged c'.bytes ≡ NoneYet) × (c.told ≡ false) × (c'.told ≡ false)
AnswersWhole c before (Err (fault_.Frame fault)) c' now = Answered c c' before now × IsFault (judged c'.bytes) fault × (c'.told ≡ true)
AnswersWhole c before (Err fault_.NoMemory) c' now = Stopped c before now × (c.told ≡ false)
