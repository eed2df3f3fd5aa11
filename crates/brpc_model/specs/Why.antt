-- Why an operation has its outcome, said once, over what may be told of a run: a report tells it by the names of its script, a program of seats by numbers.
-- Each of them gives its own meaning to the words of the records here, and reads the causes from the tables below.
use Rattle.std.specs.Prelude.{ℕ, ◌≡◌, ◌≢◌, ◌%◌, ◌<◌, ◌≤◌, ◌⊎◌, [], ◌∷◌, ℤ, pos, Some, Contains}
use Rattle.sock_words.specs.ErrorCodes.{EEOF, EFAILEDSOCKET, EREQUESTS, ERESPONSE, ERPCTIMEDOUT}
use Rattle.sock_words.specs.PackedWords.{vref_version}
use Rattle.sock_words.specs.declared.outcome.Outcome.{Outcome}
use Rattle.sock_words.specs.declared.outcome.Outcome.TheVariants.{Opened, SlotsFull, Unopened, Gone, Placed, Dropped, Full, Answered, Peer, CallFailed, Held, Freed, Kept, NotHeld, Failed, Already, Expired, Queued, Late, Crowded, Joined, NotBegun}
use Rattle.brpc_model.specs.Meta.{ResponseMeta}
use Rattle.brpc_model.specs.Frame.{Frame}

-- ## Opening

-- what is told of an `open`: the number of its own link, how many slots there are, from which version on, and that none of them is free
pub record Opening : Type 1 where
  pub link : ℕ
  pub slots : ℕ
  pub first : ℕ
  pub NoneFree : Type 0

-- its own link, in one of the slots, at an even version from the first on; or no slot was free
abbrev pub OpenCause : Opening → Outcome → Type 0
OpenCause a (Opened slot version k) = (k ≡ a.link) × (slot < a.slots) × (version % 2 ≡ 0) × (a.first ≤ version)
OpenCause a SlotsFull = a.NoneFree
OpenCause a other = ⊥

-- ## Finding a socket

-- what is told of an operation that looks for a socket under a name: that it may find none, that it may find a life, with a version of which
-- this holds, that was failed, and that the name has a socket
pub record Finding : Type 1 where
  pub FoundNone : Type 0
  pub FoundFailed : (ℕ → Type 0) → Type 0
  pub HasSocket : Type 0

-- the word that was found has another version than the id
abbrev pub GoneCause : Finding → ℕ → Type 0
GoneCause a word = a.FoundFailed (λ version. vref_version word ≢ version)

-- the word that a failed `fail` found has an odd version
abbrev pub AlreadyCause : Finding → ℕ → Type 0
AlreadyCause a word = a.FoundFailed (λ version. vref_version word % 2 ≡ 1)

-- and of a `send` besides: that each request may be found taken, and that its message is placed, or dropped, at a place of a link's order
pub record Sending : Type 1 where
  pub find : Finding
  pub WasFull : Type 0
  pub WasPlaced : ℕ → ℕ → Type 0
  pub WasDropped : ℕ → ℕ → Type 0

abbrev pub SendCause : Sending → Outcome → Type 0
SendCause a Unopened = a.find.FoundNone
SendCause a (Gone found) = GoneCause a.find found.0
SendCause a (Placed k p) = a.WasPlaced k p
SendCause a (Dropped k p) = a.WasDropped k p
SendCause a Full = a.find.HasSocket × a.WasFull
SendCause a other = ⊥

-- and of a `fail`: that it fails a life
abbrev pub FailCause : Finding → Type 0 → Outcome → Type 0
FailCause a FailsLife Unopened = a.FoundNone
FailCause a FailsLife (Gone found) = GoneCause a found.0
FailCause a FailsLife (Already found) = AlreadyCause a found.0
FailCause a FailsLife Failed = FailsLife
FailCause a FailsLife other = ⊥

abbrev pub HoldCause : Finding → Outcome → Type 0
HoldCause a Unopened = a.FoundNone
HoldCause a (Gone found) = GoneCause a found.0
HoldCause a Held = a.HasSocket
HoldCause a other = ⊥

-- of a `drop` it is told that the last `hold` of the name before it has an outcome of which this holds
abbrev pub DropCause : ((Outcome → Type 0) → Type 0) → Outcome → Type 0
DropCause AfterHold NotHeld = AfterHold (λ outcome. outcome ≢ Held)
DropCause AfterHold Freed = AfterHold (λ outcome. outcome ≡ Held)
DropCause AfterHold Kept = AfterHold (λ outcome. outcome ≡ Held)
DropCause AfterHold other = ⊥

-- ## Attempts of a call

-- what is told of links: that a link was failing, that its reading ended, that it gave a frame fault, that it gave this whole frame as its
-- n-th, and that this came before the call that it answers began; and that each request may be found taken
pub record Links : Type 1 where
  pub IsFailing : ℕ → Type 0
  pub ReadingEnded : ℕ → Type 0
  pub GaveFault : ℕ → Type 0
  pub Gave : ℕ → ℕ → Frame → Type 0
  pub CameEarly : ℕ → ℕ → Type 0
  pub WasFull : Type 0

-- what is told of an attempt: that its message was placed, dropped, or accepted by no link; that this link accepted it, and that it may be on
-- this link
pub record Attempt : Type 1 where
  pub IsPlaced : Type 0
  pub IsDropped : Type 0
  pub IsUnordered : Type 0
  pub StandsOn : ℕ → Type 0
  pub MayBeOn : ℕ → Type 0

-- what is told of where it looked for a socket: which attempt it is, that this link is one of its name, that the run was ending; and that this
-- is a client, that operation m is behind the call if that is this client's, and that such a client may find no socket at operation m
pub record Seeking : Type 1 where
  pub attempt : ℕ
  pub IsOfName : ℕ → Type 0
  pub RunEnded : Type 0
  pub IsClient : ℕ → Type 0
  pub IsBehind : ℕ → ℕ → Type 0
  pub FoundNone : ℕ → ℕ → Type 0

-- why an attempt found no live socket under its name, or lost it
pub data WhyLost (links : Links) (seeking : Seeking) : Type 0 where
  -- a link of that name was failing
  WasFailing : (k : ℕ) → seeking.IsOfName k → links.IsFailing k → WhyLost links seeking
  -- the run was ending
  RunEnding : seeking.RunEnded → WhyLost links seeking
  -- a retry found the name without a socket: that of some client, in the call's own client behind the call
  WasUnopened : 0 < seeking.attempt → (client m : ℕ) → 1 ≤ client → seeking.IsClient client → seeking.IsBehind client m → seeking.FoundNone client m → WhyLost links seeking

-- why an attempt was followed by another: it was dropped, or it reached no order, for a cause of a code that is retried
pub data WhyAgain (links : Links) (attempt : Attempt) (seeking : Seeking) : Type 0 where
  AfterDrop : attempt.IsDropped → WhyAgain links attempt seeking
  AfterLoss : attempt.IsUnordered → WhyLost links seeking → WhyAgain links attempt seeking
  AfterFull : attempt.IsUnordered → links.WasFull → WhyAgain links attempt seeking

-- ## Calls that failed

-- some link gave a whole response of which this holds
abbrev pub IsAnsweredBy : (ℕ → ℕ → Frame → Type 0) → (Frame → Type 0) → (Frame → Type 0) → Type 0
IsAnsweredBy Gave IsResponse P = (k n : ℕ) × (frame : Frame) × Gave k n frame × IsResponse frame × P frame

-- the reading of k ended; k was failing, or accepted the attempt, or the attempt found each request taken; and k gave no whole response of
-- the call before its first frame fault, but one that came before the call began, where the attempt isn't placed
pub record EndedWith (links : Links) (attempt : Attempt) (IsResponse : Frame → Type 0) (k : ℕ) : Type 0 where
  pub on : attempt.MayBeOn k
  pub ended : links.ReadingEnded k
  pub lost : links.IsFailing k ⊎ (attempt.StandsOn k ⊎ (attempt.IsUnordered × links.WasFull))
  pub unanswered : (n : ℕ) (frame : Frame) → links.Gave k n frame → IsResponse frame → (attempt.IsPlaced → ⊥) × links.CameEarly k n

-- what is told of a call and its last attempt: that no retry was left behind it, that a frame is a response of the call, that an `expire` of it
-- had this outcome, and that a `fail` of the attempt's name with this code was answered `failed`
pub record Ending : Type 1 where
  pub NoneLeft : Type 0
  pub IsResponse : Frame → Type 0
  pub IsExpiredWith : Outcome → Type 0
  pub IsFailedWith : ℕ → Type 0

-- why a call ended with the code, by its last attempt
pub data FailedBy (links : Links) (attempt : Attempt) (seeking : Seeking) (call : Ending) (code : ℕ) : Type 0 where
  -- it was expired, or its `expire` was queued
  ByExpiry : code ≡ ERPCTIMEDOUT → call.IsExpiredWith Expired ⊎ call.IsExpiredWith Queued → FailedBy links attempt seeking call code
  -- a response of its versions is compressed
  ByCompression : code ≡ ERESPONSE → IsAnsweredBy links.Gave call.IsResponse (λ frame. frame.meta.compress_type ≢ pos 0) → FailedBy links attempt seeking call code
  -- the link of its last attempt gave a frame fault
  ByFrameFault : code ≡ ERESPONSE → (k : ℕ) → attempt.MayBeOn k → links.GaveFault k → FailedBy links attempt seeking call code
  -- the reading of the link of its last attempt ended
  ByEnd : code ≡ EEOF → (k : ℕ) → EndedWith links attempt call.IsResponse k → FailedBy links attempt seeking call code
  -- no retry was left, and the last attempt found no live socket or was dropped
  BySocket : code ≡ EFAILEDSOCKET → call.NoneLeft → attempt.IsUnordered ⊎ attempt.IsDropped → WhyLost links seeking → FailedBy links attempt seeking call code
  -- no retry was left, and the last attempt found each request taken
  ByRequests : code ≡ EREQUESTS → call.NoneLeft → attempt.IsUnordered → links.WasFull → FailedBy links attempt seeking call code
  -- no retry was left, and the last attempt was dropped from a socket that a `fail` had failed with this code
  ByFail : 1500 ≤ code → code ≤ 1999 → call.NoneLeft → attempt.IsDropped → call.IsFailedWith code → FailedBy links attempt seeking call code

-- ## Calls

-- a response is uncompressed and has this code
abbrev pub HasCode : ℤ → Frame → Type 0
HasCode code frame = (frame.meta.compress_type ≡ pos 0) × (r : ResponseMeta) × (frame.meta.response ≡ Some r) × (r.code ≡ code)

-- what is told of a call: that it may find no socket, that a response of the call with this id came of which this holds, and that it failed
-- with this id and code
pub record Calling : Type 1 where
  pub FoundNone : Type 0
  pub IsAnswered : ℕ → (Frame → Type 0) → Type 0
  pub HasFailed : ℕ → ℕ → Type 0

abbrev pub CallCause : Calling → Outcome → Type 0
CallCause a Unopened = a.FoundNone
CallCause a (Answered id payload attachment) = a.IsAnswered id (λ (frame : Frame). HasCode (pos 0) frame × (frame.payload ≡ payload) × (frame.attachment ≡ attachment))
CallCause a (Peer id code) = a.IsAnswered id (HasCode code) × (code ≢ pos 0)
CallCause a (CallFailed id code) = a.HasFailed id code
CallCause a other = ⊥

-- ## What is said of another call

-- the codes of errors that a run posts
abbrev pub IsPosted : ℕ → Type 0
IsPosted code = Contains (ERPCTIMEDOUT ∷ EFAILEDSOCKET ∷ EEOF ∷ ERESPONSE ∷ EREQUESTS ∷ []) code ⊎ ((1500 ≤ code) × (code ≤ 1999))

-- what is told of the call that an `expire` or a `join` names: that it has this outcome, that it had begun, and that it may not have begun
pub record Target : Type 1 where
  pub HasOutcome : Outcome → Type 0
  pub HasBegun : Type 0
  pub MayNotHaveBegun : Type 0

-- an `expire` that ended the call shows in its outcome
abbrev pub ExpireCause : Target → Outcome → Type 0
ExpireCause a Expired = (id : ℕ) × a.HasOutcome (CallFailed id ERPCTIMEDOUT)
ExpireCause a Queued = a.HasBegun
ExpireCause a Late = a.HasBegun
ExpireCause a (Crowded first second) = a.HasBegun × IsPosted first × IsPosted second
ExpireCause a NotBegun = a.MayNotHaveBegun
ExpireCause a other = ⊥

abbrev pub JoinCause : Target → Outcome → Type 0
JoinCause a Joined = a.HasBegun
JoinCause a NotBegun = a.MayNotHaveBegun
JoinCause a other = ⊥
