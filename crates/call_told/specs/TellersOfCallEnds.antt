-- By what calls end: what whoever reads the links tells of calls, and what clients tell.
use Rattle.std.specs.Prelude.{◌≡◌, ◌≢◌, ℕ, ◌+◌, ◌<◌, Bool, true, false, List, ◌++◌, length, slice_get, ℤ, pos, Option, Some, IfSome, IsSome}
use Rattle.std.specs.List.{AllByRecursion}
use Rattle.sock_words.specs.ErrorCodes.{EEOF, EINTERNAL, ERESPONSE}
use Rattle.sock_words.specs.declared.outcome.Outcome.{Outcome}
use Rattle.sock_words.specs.declared.outcome.Outcome.TheVariants.{Answered, Peer, CallFailed}
use Rattle.brpc_model.specs.Frame.{Frame}
use Rattle.brpc_model.specs.Items.{Item, Call, CallLine}
use Rattle.brpc_model.specs.Operations.{Operation}
use Rattle.brpc_model.specs.Attempts.{IsResponse}
use Rattle.brpc_model.specs.Why.{HasCode}
use Rattle.brpc_model.specs.ReturnedLink.{LinkEnd}
use Rattle.brpc_model.specs.FrameStream.{stream}
use Rattle.brpc_model.specs.ResponseOutcome.{ending_of}
use Rattle.sock_io.specs.declared.link.Out.{Ghosts}
use Rattle.corr_core.specs.IdSlotWord.{Parts, parts, locked_word}
use Rattle.corr_core.specs.declared.marks.Note.{Note}
use Rattle.corr_core.specs.declared.marks.Note.TheVariants.{Ended, Locker}
use Rattle.corr_core.specs.declared.marks.View.{View}
use Rattle.corr_id.specs.SeatBehindIdCalls.{Found, events}
use Rattle.sock_message.specs.Asked.{Asked}
use Rattle.prpc_frame.specs.FrameMeaning.{frame_of}
use Rattle.prpc_frame.specs.declared.frame.Frame as frames
use Rattle.call_deeds.specs.Below.RpcClient.Told.{Told}
use Rattle.call_deeds.specs.Below.RpcReader.ReaderBooks.{Books, id_of}
use Rattle.call_deeds.specs.Below.CallClient.Caller.{Caller}

-- ## Responses that links gave

-- so many links, of which each gave these bytes
module _ (links : ℕ) (gave : ℕ → List ℕ) where
  -- link k gave this whole frame, behind n others
  abbrev pub Gave : ℕ → ℕ → Frame → Type 0
  Gave k n f = (k < links) × (slice_get (stream (gave k)).frames n ≡ Some f)

  -- one of them gave it whole, and it has a response
  pub record IsGiven (f : Frame) : Type 0 where
    pub link : ℕ
    pub place : ℕ
    pub whole : Gave link place f
    pub responds : IsSome f.meta.response

  -- and that is one of a version of the id that has this word in this slot
  pub record IsGivenResponse (slot : ℕ) (w : Parts) (f : Frame) : Type 0 where
    pub given : IsGiven f
    pub behind : id_of slot w < f.meta.correlation_id
    pub below : f.meta.correlation_id < id_of slot w + w.range

  abbrev pub AreGiven : List frames.Frame → Type 0
  AreGiven fs = AllByRecursion (λ f. IsGiven (frame_of f)) fs

-- ## How calls end for whoever reads the links

-- the codes with which a call ends then: nothing more comes, what came is no frame, or memory is wanting
pub data IsLossCode (code : ℕ) : Type 0 where
  at_end : code ≡ EEOF → IsLossCode code
  at_fault : code ≡ ERESPONSE → IsLossCode code
  at_want : code ≡ EINTERNAL → IsLossCode code

-- the seat noted this event of the slot
abbrev pub HasNoted : ℕ → Note Asked → View Asked → Type 0
HasNoted slot n v = (i : ℕ) × (slice_get (events v.notes) i ≡ Some record { slot = slot; note = n })

-- the seat found this id open in this slot, locked it, with this call as its content, and ended it; the word is the one of its lock
pub record HasEnded (slot : ℕ) (w : Parts) (call : Asked) (v : View Asked) : Type 0 where
  pub word : ℕ
  pub found : Found slot word v
  pub was_open : (parts word).state ≡ 1
  pub word_is : w ≡ locked_word (parts word)
  pub locked : HasNoted slot (Locker w.first call) v
  pub ended : HasNoted slot (Ended w.first w.attempt) v

module _ (links : ℕ) (gave : ℕ → List ℕ) where
  -- the call of this lock ended with a code, or by a response that a link gave
  pub data EndedBy (slot : ℕ) (w : Parts) (by : Outcome) : Type 0 where
    by_code : (code : ℕ) → IsLossCode code → by ≡ CallFailed (id_of slot w) code → EndedBy slot w by
    by_response : (f : Frame) → IsGivenResponse links gave slot w f → by ≡ ending_of (id_of slot w) f → EndedBy slot w by

-- what was told behind those before, of which this is known, and what is kept then
pub record TellsEach (links : ℕ) (gave : ℕ → List ℕ) (Is : View Asked → Told → Type 0) (b b' : Books) : Type 0 where
  pub more : List Told
  pub told : b'.told ≡ b.told ++ more
  pub each : AllByRecursion (Is b'.view) more
  pub early : AreGiven links gave b'.early

-- over so many id slots
module _ (slots links : ℕ) (gave : ℕ → List ℕ) where
  -- what was told is the end of a call for which the seat had the lock
  pub record ToldFrom (v : View Asked) (x : Told) : Type 0 where
    pub slot : ℕ
    pub inside : slot < slots
    pub word : Parts
    pub call : Asked
    pub lock : HasEnded slot word call v
    pub number : x.number ≡ call.operation
    pub by : EndedBy links gave slot word x.outcome

  abbrev pub TellsFrom : Books → Books → Type 0
  TellsFrom b b' = TellsEach links gave ToldFrom b b'

-- ## What clients tell

-- the end of a call, with its code
pub record IsFailure (x : Told) : Type 0 where
  pub id : ℕ
  pub code : ℕ
  pub is : x.outcome ≡ CallFailed id code

-- whether it is the outcome of a call that ended
abbrev pub is_end_of_call : Outcome → Bool
is_end_of_call (Answered id payload attachment) = true
is_end_of_call (Peer id code) = true
is_end_of_call (CallFailed id code) = true
is_end_of_call _ = false

abbrev pub IsOwn : Told → Type 0
IsOwn x = is_end_of_call x.outcome ≡ false

-- behind what was told before
abbrev pub TellsOnly : (Told → Type 0) → List Told → List Told → Type 0
TellsOnly P old new = (more : List Told) × (new ≡ old ++ more) × AllByRecursion P more

-- each call that the client ended failed, and no outcome of its own operations is that of a call that ended
pub record ClientTells {O : Type 0} {g : Ghosts O} (c d : Caller O g) : Type 0 where
  pub ended : TellsOnly IsFailure c.calls.told.items d.calls.told.items
  pub own : TellsOnly IsOwn c.outcomes.items d.outcomes.items

-- ## By the outcome alone

module _ (links : ℕ) (gave : ℕ → List ℕ) where
  -- a whole response of one of the versions of this call's id, which a link gave; it isn't compressed, and has this code
  pub record IsAnswer (call : CallLine) (id : ℕ) (code : ℤ) (f : Frame) : Type 0 where
    pub given : IsGiven links gave f
    pub response : IsResponse call id f
    pub coded : HasCode code f

  -- an outcome that is an answer is that of a call, and comes from a response that a link gave
  abbrev pub HasAnswer : Item → Outcome → Type 0
  HasAnswer item (Answered id payload attachment) = (call : CallLine) × (item ≡ Call call) × (f : Frame) × IsAnswer call id (pos 0) f × (f.payload ≡ payload) × (f.attachment ≡ attachment)
  HasAnswer item (Peer id code) = (call : CallLine) × (item ≡ Call call) × (f : Frame) × IsAnswer call id code f × (code ≢ pos 0)
  HasAnswer item _ = Unit {0}

  -- so each of those that are told of these operations
  abbrev pub HaveAnswers : List Operation → List (Option Outcome) → Type 0
  HaveAnswers ops outcomes = (n : ℕ) (by : Outcome) → slice_get outcomes n ≡ Some (Some by) → (op : Operation) → slice_get ops n ≡ Some op → HasAnswer op.item by

-- what is said that link k gave is what it tells, and as many bytes as it counts
pub record IsGiver (gave : ℕ → List ℕ) (k : ℕ) (e : LinkEnd) : Type 0 where
  pub gives : IfSome e.gave (λ bytes. bytes ≡ gave k)
  pub counted : length (gave k) ≡ e.gave_count

-- the answers among the outcomes of these operations are of calls, and come from responses to them that these links gave
pub record AreAnsweredBy (ops : List Operation) (outcomes : List (Option Outcome)) (ends : List LinkEnd) : Type 0 where
  pub gave : ℕ → List ℕ
  pub givers : (k : ℕ) (e : LinkEnd) → slice_get ends k ≡ Some e → IsGiver gave k e
  pub each : HaveAnswers (length ends) gave ops outcomes
