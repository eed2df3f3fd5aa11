-- What becomes of the whole frames that a link gave.
use Rattle.std.specs.Prelude.{◌≡◌, ◌+◌, ◌<◌, ◌==◌, ◌&&◌, ◌⊎◌, ℕ, nat_lt, Bool, true, false, List, [], ◌∷◌, Option, Some, None, map}
use Rattle.corr_core.specs.IdSlotWord.{Parts, parts}
use Rattle.corr_core.specs.declared.marks.View.{View}
use Rattle.corr_core.specs.IdRangeVersions.{has_version, is_early}
use Rattle.corr_id.specs.SeatBehindIdCalls.{GotLock, Quiet, Found, FoundNow}
use Rattle.corr_id.specs.LocksByAttempt.{LacksAttempt}
use Rattle.sock_message.specs.Asked.{Asked}
use Rattle.prpc_frame.specs.rpc_meta.specs.declared.meta.ResponseMeta.{ResponseMeta}
use Rattle.prpc_frame.specs.StreamCuts.{Cut}
use Rattle.prpc_frame.specs.FrameMeaning.{frame_of}
use Rattle.prpc_frame.specs.declared.frame.Frame.{Frame}
use Rattle.brpc_model.specs.ResponseOutcome.{ending_of}
use Rattle.rpc_reader.specs.ReaderBooks.{Books, EndedAs, KeptBy, id_of}
use Rattle.sock_words.specs.PackedWords.{id_slot, id_first}

abbrev pub has_response : Option ResponseMeta → Bool
has_response None = false
has_response (Some r) = true

abbrev pub slot_in : Frame → ℕ
slot_in f = id_slot f.meta.correlation_id

abbrev pub version_in : Frame → ℕ
version_in f = id_first f.meta.correlation_id

-- a response of one of so many id slots
abbrev pub is_asked : ℕ → Frame → Bool
is_asked slots f = has_response f.meta.response && nat_lt (slot_in f) slots

-- a response of an attempt of the id that has this word in this slot
abbrev pub is_for : ℕ → Parts → Frame → Bool
is_for slot w f = has_response f.meta.response && ((slot_in f == slot) && has_version (version_in f) w)

-- the id of the response's version was open, and isn't that version itself: this seat locked it, and ended its call with the response
pub record AnsweredBy (slots : ℕ) (f : Frame) (b b' : Books) : Type 0 where
  pub inside : slot_in f < slots
  pub locked : View Asked
  pub found : ℕ
  pub word : Parts
  pub call : Asked
  pub got : GotLock (slot_in f) b.view locked found word call
  pub version : (word.first < version_in f) × (version_in f < word.first + word.range)
  pub ended : EndedAs (slot_in f) word call (ending_of (id_of (slot_in f) word) (frame_of f)) (record b { view = locked }) b'
  pub early : b'.early ≡ b.early

abbrev pub KeptIf : Bool → Frame → List Frame → Bool → List Frame → Bool → Type 0
KeptIf true f early starved early' starved' = KeptBy f early starved early' starved'
KeptIf false f early starved early' starved' = (early' ≡ early) × (starved' ≡ starved)

-- the word that this call found in its slot lacks the version: where that is one of a range that wasn't made yet, the response is kept, else it is passed over
pub record LackedBy (f : Frame) (b b' : Books) : Type 0 where
  pub quiet : Quiet b.view b'.view
  pub word : ℕ
  pub found : Found (slot_in f) word b'.view
  pub now : FoundNow (slot_in f) word b.view b'.view
  pub lacks : LacksAttempt (parts word) (version_in f)
  pub told : b'.told ≡ b.told
  pub kept : KeptIf (is_early (version_in f) (parts word)) f b.early b.starved b'.early b'.starved

-- another frame is passed over
abbrev pub MetIf : Bool → ℕ → Frame → Books → Books → Type 0
MetIf true slots f b b' = AnsweredBy slots f b b' ⊎ LackedBy f b b'
MetIf false slots f b b' = b' ≡ b

abbrev pub FrameMet : ℕ → Frame → Books → Books → Type 0
FrameMet slots f b b' = MetIf (is_asked slots f) slots f b b'

-- frames, one behind the other
abbrev pub FramesMet : ℕ → List Frame → Books → Books → Type 0
FramesMet slots [] b b' = b' ≡ b
FramesMet slots (f ∷ fs) b b' = (m : Books) × FrameMet slots f b m × FramesMet slots fs m b'

-- the frames with which these bytes begin were met, and those bytes are left behind them
pub record MetAll (slots : ℕ) (bytes left : List ℕ) (b b' : Books) : Type 0 where
  pub frames : List Frame
  pub cut : Cut bytes (map frame_of frames) left
  pub met : FramesMet slots frames b b'
