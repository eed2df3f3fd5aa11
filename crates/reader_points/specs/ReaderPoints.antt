-- What the reader of a link has still to do, by the point at which it stands: its program from each of its steps on.
use Rattle.std.specs.Prelude.{ℕ, ◌≡◌, ◌≤◌, ◌-◌, ◌==◌, Bool, true, false, min, nat_lt, if◌then◌else◌, List, [], ◌∷◌, ◌++◌, length, drop, Option, Some, None, pos}
use Rattle.sock_words.specs.ErrorCodes.{EEOF, ERESPONSE}
use Rattle.sock_words.specs.PackedWords.{socket_id_slot, socket_id_version, at_word_link, at_word_slot, at_word_first, at_word_attempt, call_id, id_slot, NO_SOCKET}
use Rattle.sock_words.specs.declared.outcome.Outcome.TheVariants.{CallFailed}
use Rattle.corr_core.specs.IdSlotWord.{parts, error_of}
use Rattle.brpc_model.specs.Frame.{Frame, NoneYet, judged}
use Rattle.brpc_model.specs.FrameStream.{stream}
use Rattle.brpc_model.specs.ResponseOutcome.{ending_of}
use Rattle.sock_message.specs.Asked.{Asked}
use Rattle.seat_programs.specs.Asides.{Taking, Bytes, Nothing, NoMore, AtEnd, Closed, Broken, LoadAt, TakeCall, FreeId}
use Rattle.seat_programs.specs.TableSteps as calls
use Rattle.seat_programs.specs.LoopHeads.{Reading, Ended, Opens, Reads, Discards, Deciding, Decides}
use Rattle.seat_programs.specs.Programs.{Program, Do, Say, Rest, Aside, Round, add_reference, release, set_failed}
use Rattle.seat_programs.specs.PostPrograms.{post_with, decide, decided, end_id}
use Rattle.seat_programs.specs.ReaderProgram.{LIMIT, slot_in, version_in, answered, responses, ended_by, read_on, read, kept_for, ends_with, posted_last, post_each, thrown_away, room_of}
use Rattle.call_points.specs.CallIdPoints.{end_program, post_program, lock_program, IsOpen}
use Rattle.call_points.specs.declared.deciding.OnCall.{OnCall}
use Rattle.call_points.specs.declared.locking.Locker.{Locker}
use Rattle.call_points.specs.declared.aside.Aside.TheVariants as asides
use Rattle.id_points.specs.IdsAndAttemptNumbers.{id_of, number_of}
use Rattle.id_points.specs.declared.locking.Sought.TheVariants as sought
use Rattle.seat_states.specs.ProgramAtPoint.{release_on, MayFindIn}
use Rattle.reader_points.specs.declared.point.ByteCount.{ByteCount}
use Rattle.reader_points.specs.declared.point.Reader.{Reader}
use Rattle.reader_points.specs.declared.point.Closing.{Closing}
use Rattle.reader_points.specs.declared.point.Lost.{Lost}
use Rattle.reader_points.specs.declared.point.FailStep.{FailStep}
use Rattle.reader_points.specs.declared.point.FailStep.TheVariants as fails
use Rattle.reader_points.specs.declared.point.Behind.{Behind}
use Rattle.reader_points.specs.declared.point.Behind.TheVariants as behinds
use Rattle.reader_points.specs.declared.point.AnswerStep.{AnswerStep}
use Rattle.reader_points.specs.declared.point.AnswerStep.TheVariants as answers
use Rattle.reader_points.specs.declared.point.CloseStep.{CloseStep}
use Rattle.reader_points.specs.declared.point.CloseStep.TheVariants as closes
use Rattle.reader_points.specs.declared.point.ReadPoint.{ReadPoint}
use Rattle.reader_points.specs.declared.point.ReadPoint.TheVariants as points
use Rattle.reader_points.specs.declared.point.ReadStep.{ReadStep}
use Rattle.reader_points.specs.declared.point.ReadStep.TheVariants as steps
use Rattle.reader_points.specs.declared.point.ReadNext.{ReadNext}
use Rattle.reader_points.specs.declared.point.ReadNext.TheVariants as nexts
use Rattle.reader_points.specs.declared.point.Taken.{Taken}
use Rattle.reader_points.specs.declared.point.Taken.TheVariants as takens

-- what stands round a reader's point: the operations that are calls, the bytes behind the last frame that was cut, the responses
-- kept, the response in hand, whether that is a fresh one, which isn't kept, and the call in hand
pub record Context : Type 0 where
  pub calls : List ℕ
  pub held : List ℕ
  pub kept : List Frame
  pub frame : Frame
  pub fresh : Bool
  pub asked : Asked

-- how many bytes came; a count is never above the limit of a link
abbrev pub count_of : ByteCount → ℕ
count_of n = min n.0 LIMIT

-- the code with which a reading ends
abbrev pub code_by : Bool → ℕ
code_by fault = if fault then ERESPONSE else EEOF

-- the error that ends a lost call: the reading's code, for its attempt
abbrev pub error_in : Lost → ℕ
error_in l = error_of (code_by l.closing.fault) (number_of l.attempt)

abbrev pub on_call : Lost → OnCall
on_call l = record { id = l.id; error = record { 0 = error_in l } }

module _ (a : Context) where
  -- where the reading stands, with these bytes and responses in hand
  abbrev pub reading_with : Reader → List ℕ → List Frame → Reading
  reading_with r bytes kept = record { ids = length a.calls; link = r.link; id = r.socket.0; rest = bytes; total = count_of r.total; kept = kept }

  -- ## Frames

  -- the frames of these bytes, with these responses kept
  abbrev pub frames_program : Reader → List ℕ → List Frame → Program
  frames_program r bytes kept = let s = stream bytes in
      responses (length a.calls) s.frames kept (λ kept'. read_on (reading_with r bytes kept') bytes s.ending (read a.calls))

  -- behind a response
  abbrev pub frames_behind : Reader → List Frame → Program
  frames_behind r kept = frames_program r a.held kept

  -- ## The end of a reading

  abbrev pub ended_of : Closing → Ended
  ended_of c = ended_by (code_by c.fault) false c.fault (reading_with c.reader a.held a.kept)

  -- the calls that are left are looked at
  abbrev pub posts_program : Closing → Program
  posts_program c = post_each (drop c.next a.calls) c.reader.link (code_by c.fault) a.kept (thrown_away (ended_of c))

  abbrev pub close_program : Closing → CloseStep → Program
  close_program c closes.AddRef = add_reference c.reader.socket.0 (set_failed c.reader.socket.0 (code_by c.fault) (λ _. release (socket_id_slot c.reader.socket.0) (λ _. posts_program c))) (λ _. posts_program c)
  close_program c closes.SetOdd = set_failed c.reader.socket.0 (code_by c.fault) (λ _. release (socket_id_slot c.reader.socket.0) (λ _. posts_program c))
  close_program c closes.StoreCode = Do (calls.OnSlot (calls.StoreCode (socket_id_slot c.reader.socket.0) (socket_id_version c.reader.socket.0) (code_by c.fault))) (λ _. Do (calls.OnSlot (calls.SubRef (socket_id_slot c.reader.socket.0))) (λ _. release (socket_id_slot c.reader.socket.0) (λ _. posts_program c)))
  close_program c closes.ReleaseFirst = Do (calls.OnSlot (calls.SubRef (socket_id_slot c.reader.socket.0))) (λ _. release (socket_id_slot c.reader.socket.0) (λ _. posts_program c))
  close_program c (closes.Release at) = release_on (socket_id_slot c.reader.socket.0) (λ _. posts_program c) at

  -- the at word of the call of this operation is looked at, and then the calls that are left
  abbrev pub load_program : Closing → ℕ → Program
  load_program c o = Aside (LoadAt o) (λ w.
      if w == 0 then posts_program c else if at_word_link w == c.reader.link
      then (let id = call_id (at_word_slot w) (at_word_first w) in let e = error_of (code_by c.fault) (at_word_attempt w) in post_with id e (posted_last id e a.kept (posts_program c)))
      else posts_program c)

  -- ## The end of a call by a response

  abbrev pub behind_program : Behind → Program
  behind_program (behinds.Frames r) = frames_behind r a.kept
  behind_program (behinds.Posts c) = posts_program c

  abbrev pub said_program : Behind → ℕ → ℕ → Program
  said_program b id o = Say o (ending_of id a.frame) (behind_program b)

  abbrev pub answer_program : Behind → ℕ → AnswerStep → Program
  answer_program b id answers.Take = Aside (TakeCall (id_slot id)) (λ asked. end_id (id_slot id) (said_program b id asked.operation))
  answer_program b id (answers.End o at) = end_program (id_slot id) (said_program b id o) at

  -- ## The end of a call by the error

  abbrev pub ended_call : Lost → Deciding → Program
  ended_call l = decided (id_of l.id) (posts_program l.closing)

  -- it is said
  abbrev pub told_program : Lost → ℕ → Program
  told_program l o = Say o (CallFailed (id_of l.id) (code_by l.closing.fault)) (posts_program l.closing)

  abbrev pub fail_program : Lost → FailStep → Program
  fail_program l (fails.Take word) = decide (id_of l.id) word.0 (error_in l) (ended_call l)
  fail_program l (fails.Judge word) = Round (Decides (id_of l.id) a.asked word.0 (error_in l)) (ended_call l)
  fail_program l (fails.Free o) = Aside (FreeId (id_slot (id_of l.id))) (λ _. told_program l o)

  -- ## Points

  -- from a point on
  abbrev pub point_program : ReadPoint → Program
  point_program points.Rest = Rest
  point_program (points.Open link o) = Round (Opens o) (λ word. if word == NO_SOCKET then Rest
      else Round (Reads (record { ids = length a.calls; link = link; id = word - 1; rest = []; total = 0; kept = [] })) (read a.calls))
  point_program (points.Take r) = Round (Reads (reading_with r a.held a.kept)) (read a.calls)
  point_program (points.Lock r l at) = lock_program l (answered a.frame a.kept (frames_behind r)) at
  point_program (points.Answer b id at) = answer_program b (id_of id) at
  point_program (points.Close c at) = close_program c at
  point_program (points.Load c o) = load_program c o
  point_program (points.Post l at) = post_program (on_call l) (posted_last (id_of l.id) (error_in l) a.kept (posts_program l.closing)) at
  point_program (points.Fail l at) = fail_program l at
  point_program (points.Discard link total) = Round (Discards link (count_of total)) (λ _. Rest)

  -- behind a step
  abbrev pub next_program : ReadNext → Program
  next_program (nexts.Point point) = point_program point
  next_program (nexts.Frames r) = frames_behind r a.kept
  next_program (nexts.Early r) = frames_behind r (a.kept ++ a.frame ∷ [])
  next_program (nexts.Answered o id b) = said_program b (id_of id) o
  next_program (nexts.Posts c) = posts_program c
  next_program (nexts.Locked l w) = ends_with (id_of l.id) (error_in l) w.0 (kept_for (id_of l.id) (parts w.0).range a.kept) (posts_program l.closing)
  next_program (nexts.CallEnded o l) = told_program l o

-- ## What a step finds

-- with what a take gave
abbrev pub with_taking : Taking → Context → Context
with_taking (Bytes bytes) a = record a { held = a.held ++ bytes }
with_taking other a = a

abbrev pub with_asked : Asked → Context → Context
with_asked asked a = record a { asked = asked }

-- with a fresh response in hand, and with one that is kept
abbrev pub with_frame : Frame → Context → Context
with_frame frame a = record a { frame = frame; fresh = true }

abbrev pub with_kept : Frame → Context → Context
with_kept frame a = record a { frame = frame; fresh = false }

-- without one
abbrev pub NO_FRAME : Frame
NO_FRAME = record { meta = record { request = None; response = None; compress_type = pos 0; correlation_id = 0; attachment_size = pos 0 }; payload = []; attachment = [] }

abbrev pub without_frame : Context → Context
without_frame a = record a { frame = NO_FRAME; fresh = false }

-- with these bytes left
abbrev pub with_held : List ℕ → Context → Context
with_held bytes a = record a { held = bytes }

-- what a take found; where a run is ending, what isn't there any more is over too
abbrev pub IsTaken : Taken → Taking → Type 0
IsTaken (takens.Bytes n) (Bytes bytes) = n ≡ length bytes
IsTaken takens.Nothing Nothing = Unit {0}
IsTaken takens.Over NoMore = Unit {0}
IsTaken takens.Over AtEnd = Unit {0}
IsTaken takens.Over Broken = Unit {0}
IsTaken takens.Closed Closed = Unit {0}
IsTaken taken other = ⊥

-- no more than there is room for
abbrev pub room : ByteCount → ℕ
room n = room_of (count_of n)

abbrev pub room_at : ReadPoint → ℕ
room_at (points.Take r) = room r.total
room_at (points.Discard link total) = room total
room_at other = 0

abbrev pub FitsRoom : ℕ → Taken → Type 0
FitsRoom most (takens.Bytes n) = n ≤ most
FitsRoom most other = Unit {0}

-- ## What a point has in hand

-- the locker is that of the response in hand
pub record IsLocker (frame : Frame) (l : Locker) : Type 0 where
  pub slot : l.slot ≡ slot_in frame
  pub sought : l.sought ≡ sought.Version (version_in frame)

-- more bytes may be taken
abbrev pub IsBelow : ByteCount → Type 0
IsBelow n = nat_lt (count_of n) LIMIT ≡ true

-- nothing came yet to a reader that waits for its socket; where bytes are taken there is neither a whole frame nor a fault in hand, and the
-- limit isn't reached; a lock is that of the response in hand, which is a fresh one
abbrev pub HasInHand : Context → ReadPoint → Type 0
HasInHand a (points.Open link o) = (a.held ≡ []) × (a.kept ≡ [])
HasInHand a (points.Take r) = (judged a.held ≡ NoneYet) × IsBelow r.total
HasInHand a (points.Lock r l at) = (a.fresh ≡ true) × IsLocker a.frame l
HasInHand a (points.Discard link total) = IsBelow total
HasInHand a other = Unit {0}

-- only a fresh response is kept
abbrev pub HasNext : Context → ReadNext → Type 0
HasNext a (nexts.Point point) = HasInHand a point
HasNext a (nexts.Early r) = a.fresh ≡ true
HasNext a other = Unit {0}

-- ## Which step comes next

abbrev pub AnswersByWord : AnswerStep → Type 0
AnswersByWord answers.Take = ⊥
AnswersByWord other = Unit {0}

abbrev pub FailsByWord : FailStep → Type 0
FailsByWord (fails.Take word) = ⊥
FailsByWord other = Unit {0}

-- one on a word
abbrev pub GoesByWord : ReadPoint → Type 0
GoesByWord points.Rest = ⊥
GoesByWord (points.Take r) = ⊥
GoesByWord (points.Discard link total) = ⊥
GoesByWord (points.Answer b id at) = AnswersByWord at
GoesByWord (points.Fail l at) = FailsByWord at
GoesByWord other = Unit {0}

-- bytes are taken
abbrev pub TakesBytes : ReadPoint → Type 0
TakesBytes (points.Take r) = Unit {0}
TakesBytes (points.Discard link total) = Unit {0}
TakesBytes other = ⊥

-- a call is taken out of its home
abbrev pub TakesCall : ReadPoint → Type 0
TakesCall (points.Answer b id answers.Take) = Unit {0}
TakesCall (points.Fail l (fails.Take word)) = Unit {0}
TakesCall other = ⊥

-- how a seat at this point goes on behind this step: with a call, with at most so many bytes, or by a word
abbrev pub GoesBy : ReadPoint → Option ReadStep → Type 0
GoesBy point None = point ≡ points.Rest
GoesBy point (Some (steps.Aside (asides.TakeCall i))) = TakesCall point
GoesBy point (Some (steps.Aside (asides.TakeBytes k n))) = TakesBytes point × (n ≡ room_at point)
GoesBy point (Some step) = GoesByWord point

-- a word that may be found
abbrev pub MayFindClosing : CloseStep → ℕ → Type 0
MayFindClosing (closes.Release at) found = MayFindIn at found
MayFindClosing other found = Unit {0}

abbrev pub MayFind : ReadPoint → ℕ → Type 0
MayFind (points.Close c at) found = MayFindClosing at found
MayFind other found = Unit {0}

-- a lock is tried from an open word alone
abbrev pub IsWithin : ReadPoint → Type 0
IsWithin (points.Lock r l at) = IsOpen at
IsWithin other = Unit {0}
