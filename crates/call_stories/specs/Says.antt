-- Programs that say of calls only what has its cause in what happened so far.
use Rattle.std.specs.Prelude.{ℕ, ◌≡◌, ◌≢◌, ◌+◌, ◌<◌, ◌≤◌, ◌⊎◌, Bool, true, false, List, [], ◌∷◌, ◌++◌, slice_get, Option, Some, None}
use Rattle.std.specs.List.{AllByRecursion}
use Rattle.sock_words.specs.ErrorCodes.{EEOF, ERESPONSE, is_final}
use Rattle.sock_words.specs.PackedWords.{at_word_attempt, call_id, id_slot, id_first, bit}
use Rattle.sock_words.specs.declared.plain.Plan.{Plan}
use Rattle.sock_io.specs.declared.link.Put.{Put}
use Rattle.sock_io.specs.declared.link.Ready.{Ready}
use Rattle.sock_model.specs.declared.chain.Heading.{Heading}
use Rattle.seat_programs.specs.brpc_model.specs.Frame.{Frame}
use Rattle.seat_programs.specs.brpc_model.specs.FrameStream.{stream}
use Rattle.seat_programs.specs.brpc_model.specs.LinkFailureCauses.{HasFault}
use Rattle.corr_core.specs.IdSlotWord.{Parts, parts, code_of, attempt_of, unlocked_word}
use Rattle.corr_core.specs.declared.marks.Plan.{Plan as IdPlan}
use Rattle.corr_core.specs.EndedByRangeOrAttempt.{WHOLE}
use Rattle.sock_message.specs.Asked.{Asked, name_of}
use Rattle.seat_programs.specs.declared.task.Op.TheVariants as ops
use Rattle.seat_programs.specs.declared.task.Task.{Task}
use Rattle.seat_programs.specs.TableSteps.{TableStep, OnSlot, OnName, StoreName, LoadName, StoreCode, LoadCode}
use Rattle.seat_programs.specs.Asides.{Step, ClaimId, PutCall, MakeId, StoreCall, LoadCall, StoreAt, LoadAt, LoadIdWord, LockId, PostId, UnlockId, EndId, FreeId, TakeCall, TakeBytes, Taking, Bytes, Found}
use Rattle.seat_programs.specs.LoopHeads.{Head, Exit, Sought, First, Version, Posts, Unlocks, Decides, Locks, Joins, Opens, Reads, Discards, Posting, WasCrowded, WasQueued, HasLocked, Unlocking, IsOpen, HasNext, Deciding, HasEnded, GoesOn, Locking, NotThere, Has, Reading}
use Rattle.seat_programs.specs.PostPrograms.{is_first, is_stale, packed, IsSoughtWord}
use Rattle.seat_programs.specs.Programs.{Program, Do, Say, Sent, Rest, TakeMessage, TakeHome, PutHome, PutBytes, AskReady, Write, Aside, Round, Keep, Retries}
use Rattle.seat_programs.specs.ReaderProgram.{has_response}
use Rattle.owed_calls.specs.Below.id_runs.specs.Goes.{FitsOwner, FitsWriting}
use Rattle.call_stories.specs.LinkReadingLists.{gave_in}
use Rattle.sock_words.specs.declared.outcome.Outcome.{Outcome}
use Rattle.call_stories.specs.Scenes.{Birth, Scene, Said, IsOver, IsJust, IsBorn, IsClaimed, Came, HasFaulted, IsOther, IsErrorCode, Named, Begun, WasPosted, WasDecided, EndedAt, MayAdvance, HasBegunIn, CauseOf, WhyEnded, WhyOwn, AreTold, HasNoneOf, IsTaskOf, Later}

-- ## Marks

-- how many versions a range has, and the attempt to which its call has come
pub record Shape : Type 0 where
  pub range : ℕ
  pub attempt : ℕ

abbrev pub shape_of : Parts → Shape
shape_of word = record { range = word.range; attempt = word.attempt }

abbrev pub HasShape : ℕ → Shape → Type 0
HasShape word shape = ((parts word).range ≡ shape.range) × ((parts word).attempt ≡ shape.attempt)

-- what a seat has of an id slot: it claimed it, and put this call there; it locked the range with this first version and of this shape; it took its
-- call out besides; or the range has ended
pub data Slot : Type 0 where
  NoSlot : Slot
  Claims : ℕ → Option Asked → Slot
  Locked : ℕ → ℕ → Shape → Slot
  Holds : ℕ → ℕ → Shape → Asked → Slot
  Leaves : ℕ → Slot

-- a client has done these tasks, the latest first, and has these to do; it made this id, whose word isn't stored yet; a range that it ended is one of which the
-- outcome is still to be said; and a reader has this link, which gave these bytes so far
pub record Mark : Type 0 where
  pub client : ℕ
  pub done : List Task
  pub todo : List Task
  pub slot : Slot
  pub makes : List Birth
  pub owes : List Birth
  pub link : List ℕ
  pub bytes : List ℕ

abbrev pub with_slot : Slot → Mark → Mark
with_slot s m = record { client = m.client; done = m.done; todo = m.todo; slot = s; makes = m.makes; owes = m.owes; link = m.link; bytes = m.bytes }

abbrev pub with_owed : List Birth → Mark → Mark
with_owed bs m = record { client = m.client; done = m.done; todo = m.todo; slot = m.slot; makes = m.makes; owes = bs; link = m.link; bytes = m.bytes }

abbrev pub with_made : List Birth → Mark → Mark
with_made bs m = record { client = m.client; done = m.done; todo = m.todo; slot = m.slot; makes = bs; owes = m.owes; link = m.link; bytes = m.bytes }

abbrev pub with_bytes : List ℕ → Mark → Mark
with_bytes bytes m = record { client = m.client; done = m.done; todo = m.todo; slot = m.slot; makes = m.makes; owes = m.owes; link = m.link; bytes = bytes }

-- task t is done, and these are left
abbrev pub with_done : Task → List Task → Mark → Mark
with_done t ts m = record { client = m.client; done = t ∷ m.done; todo = ts; slot = m.slot; makes = m.makes; owes = m.owes; link = m.link; bytes = m.bytes }

abbrev pub IsVacant : Slot → Type 0
IsVacant NoSlot = Unit {0}
IsVacant (Leaves i) = Unit {0}
IsVacant other = ⊥

-- the seat holds no id
abbrev pub IsFree : Mark → Type 0
IsFree m = IsVacant m.slot × (m.owes ≡ []) × (m.makes ≡ [])

-- with another attempt
abbrev pub with_attempt : ℕ → Slot → Slot
with_attempt n (Locked i f shape) = Locked i f (record { range = shape.range; attempt = n })
with_attempt n other = other

-- the word that an exchange writes which gives the oldest error out
abbrev pub unlocked_by : ℕ → Bool → ℕ
unlocked_by from advance = packed (unlocked_word (parts from) (bit advance))

abbrev pub put_in : Asked → Slot → Slot
put_in asked (Claims i c) = Claims i (Some asked)
put_in asked (Holds i f shape c) = Locked i f shape
put_in asked other = other

abbrev pub taken_out : Asked → Slot → Slot
taken_out asked (Locked i f shape) = Holds i f shape asked
taken_out asked other = other

abbrev pub given_more : Taking → Mark → Mark
given_more (Bytes bytes) m = with_bytes (m.bytes ++ bytes) m
given_more other m = m

-- ## What the program says before its next step

-- an outcome that is said next is said directly behind this one
abbrev pub IsNextSaid : Scene → ℕ → Outcome → Program → Type 0
IsNextSaid w o outcome (Say t x next) = IsOver (record { number = t; outcome = x }) (record { number = o; outcome = outcome }) w.sayings
IsNextSaid w o outcome other = Unit {0}

abbrev pub SaidBy : Scene → Program → Type 0
SaidBy w (Say o outcome next) = (Said w o outcome × IsNextSaid w o outcome next) × SaidBy w next
SaidBy w (Sent o next) = SaidBy w next
SaidBy w (Keep r next) = SaidBy w next
SaidBy w other = Unit {0}

-- the bytes' frames behind those of the rest are those that follow, and so is a fault
abbrev pub GoesFrom : List ℕ → List ℕ → Type 0
GoesFrom bytes rest = (before : ℕ) × ((more : List ℕ) (n : ℕ) (frame : Frame) → slice_get (stream (rest ++ more)).frames n ≡ Some frame → slice_get (stream (bytes ++ more)).frames (before + n) ≡ Some frame) × ((more : List ℕ) → HasFault (rest ++ more) → HasFault (bytes ++ more))

module _ (p : Plan) (q : IdPlan) (clients : List (List Task)) (gives : ℕ → List ℕ) where
  -- where two errors wait in a word that was found, they have codes
  abbrev pub HasCodes : ℕ → Type 0
  HasCodes word = (parts word).state ≡ 2 → (parts word).second ≢ 0 → IsErrorCode p q clients gives (code_of (parts word).oldest) × IsErrorCode p q clients gives (code_of (parts word).second)

  -- ## Steps on the table of the sockets

  abbrev pub MayDo : TableStep → Type 0
  MayDo (OnName (StoreName n word)) = word ≢ 0
  MayDo (OnSlot (StoreCode i h c)) = IsOther p q clients gives c
  MayDo other = Unit {0}

  -- where no socket is found under a name, none of the setup's gave it one
  abbrev pub NoneOfSetup : Scene → ℕ → Type 0
  NoneOfSetup w n = (t : Task) → IsTaskOf p q clients gives 0 t → HasNoneOf p q clients gives w n t

  abbrev pub FindsDo : Scene → Mark → TableStep → ℕ → Type 0
  FindsDo w m (OnName (StoreName n word)) found = Named p q clients gives w n
  FindsDo w m (OnName (LoadName n)) found = (found ≡ 0 → (Named p q clients gives w n → ⊥) × (m.client ≢ 0 → NoneOfSetup w n) × AreTold p q clients gives w m.client m.done) × (found ≢ 0 → Named p q clients gives w n)
  FindsDo w m (OnSlot (LoadCode i h)) found = (found ≢ 0 → IsOther p q clients gives found)
  FindsDo w m other found = Unit {0}

  -- ## Steps aside

  -- an exchange that advances the attempt has its error
  abbrev pub MayUnlock : Scene → Mark → ℕ → Bool → Type 0
  MayUnlock w m i advance = (f : ℕ) × (shape : Shape) × (m.slot ≡ Locked i f shape) × (advance ≡ true → MayAdvance p q clients gives w (call_id i f) shape.attempt)

  abbrev pub MayAside : Scene → Mark → Step → Type 0
  MayAside w m (ClaimId i) = IsFree m × (t : Task) × (ts : List Task) × (asked : Asked) × (m.todo ≡ t ∷ ts) × (t.op ≡ ops.Call asked) × (t.number ≡ asked.operation) × IsTaskOf p q clients gives m.client t
  MayAside w m (PutCall i asked) = (m.slot ≡ Claims i None) ⊎ ((f : ℕ) × (shape : Shape) × (m.slot ≡ Holds i f shape asked) × IsBorn w (call_id i f) asked)
  MayAside w m (MakeId i range) = (asked : Asked) × (t : Task) × (ts : List Task) × (m.slot ≡ Claims i (Some asked)) × (range ≡ asked.range) × (m.todo ≡ t ∷ ts) × (t.op ≡ ops.Call asked) × (t.number ≡ asked.operation) × (m.makes ≡ []) × (m.owes ≡ [])
  MayAside w m (StoreCall o id) = (b : Birth) × (t : Task) × (ts : List Task) × (m.makes ≡ b ∷ []) × (m.todo ≡ t ∷ ts) × (t.op ≡ ops.Call b.asked) × (t.number ≡ b.asked.operation) × (o ≡ b.asked.operation) × (id ≡ b.id) × IsBorn w b.id b.asked × Named p q clients gives w (name_of b.asked 0)
  MayAside w m (LockId i from) = IsFree m
  MayAside w m (PostId i from e) = IsFree m
  MayAside w m (UnlockId i from advance) = MayUnlock w m i advance
  MayAside w m (EndId i) = (f : ℕ) × (shape : Shape) × (asked : Asked) × (m.slot ≡ Holds i f shape asked) × IsBorn w (call_id i f) asked × (m.owes ≡ [])
  MayAside w m (FreeId i) = m.slot ≡ Leaves i
  MayAside w m (TakeCall i) = (f : ℕ) × (shape : Shape) × (m.slot ≡ Locked i f shape)
  MayAside w m (TakeBytes k room) = m.link ≡ k ∷ []
  MayAside w m (StoreAt o x) = at_word_attempt x ≤ 6
  MayAside w m other = Unit {0}

  -- what the step makes of the mark, and what it shows
  abbrev pub Moves : Scene → Mark → (step : Step) → Found step → Mark → Type 0
  Moves w m (ClaimId i) found m' = (found ≡ 0 → m' ≡ with_slot (Claims i None) m) × (found ≢ 0 → (m' ≡ m) × ((t : Task) (ts : List Task) → m.todo ≡ t ∷ ts → (o : ℕ) × IsClaimed w i o × (o ≢ t.number)))
  Moves w m (PutCall i asked) found m' = m' ≡ with_slot (put_in asked m.slot) m
  Moves w m (MakeId i range) found m' = (asked : Asked) → m.slot ≡ Claims i (Some asked) → (m' ≡ with_made (record { id = call_id i (parts found).first; asked = asked } ∷ []) (with_slot NoSlot m)) × IsBorn w (call_id i (parts found).first) asked
  Moves w m (StoreCall o id) found m' = (t : Task) (ts : List Task) → m.todo ≡ t ∷ ts → (m' ≡ with_done t ts (with_made [] m)) × Begun p q clients gives w o
  Moves w m (LoadCall o) found m' = (m' ≡ m) × (found ≢ 0 → HasBegunIn p q clients gives w m.client m.done o × ((asked : Asked) × IsBorn w found asked × (asked.operation ≡ o))) × (found ≡ 0 → (Begun p q clients gives w o → ⊥) × AreTold p q clients gives w m.client m.done)
  Moves w m (LoadIdWord i) found m' = (m' ≡ m) × HasCodes found
  Moves w m (LockId i from) found m' = (found ≡ from → m' ≡ with_slot (Locked i (parts from).first (shape_of (parts from))) m) × (found ≢ from → m' ≡ m)
  Moves w m (PostId i from e) found m' = (found ≡ from → (parts from).state ≡ 1 → m' ≡ with_slot (Locked i (parts from).first (shape_of (parts from))) m) × (found ≡ from → (parts from).state ≢ 1 → m' ≡ m) × (found ≢ from → (m' ≡ m) × HasCodes found) × (found ≡ from → WasPosted w (call_id i (parts from).first) e)
  Moves w m (UnlockId i from advance) found m' = (found ≡ from → (parts from).oldest ≡ 0 → m' ≡ with_slot NoSlot m)
      × (found ≡ from → (parts from).oldest ≢ 0 → (m' ≡ with_slot (with_attempt (parts (unlocked_by from advance)).attempt m.slot) m) × ((f : ℕ) (shape : Shape) → m.slot ≡ Locked i f shape → CauseOf p q clients gives w (call_id i f) (parts from).oldest × ((parts (unlocked_by from advance)).range ≡ shape.range))) × (found ≢ from → m' ≡ m)
  Moves w m (EndId i) found m' = (f : ℕ) (shape : Shape) (asked : Asked) → m.slot ≡ Holds i f shape asked → (m' ≡ with_owed (record { id = call_id i f; asked = asked } ∷ []) (with_slot (Leaves i) m)) × EndedAt p q clients gives w (record { id = call_id i f; asked = asked }) shape.attempt
  Moves w m (LoadAt o) found m' = (m' ≡ m) × (at_word_attempt found ≤ 6)
  Moves w m (FreeId i) found m' = m' ≡ with_slot NoSlot m
  Moves w m (TakeCall i) found m' = (m' ≡ with_slot (taken_out found m.slot) m) × ((f : ℕ) (shape : Shape) → m.slot ≡ Locked i f shape → IsBorn w (call_id i f) found × (found.range ≡ shape.range))
  Moves w m (TakeBytes k room) found m' = (m' ≡ given_more found m) × (m.link ≡ k ∷ [] → gave_in w.core k ≡ (given_more found m).bytes)
  Moves w m other found m' = m' ≡ m

  -- and what the seat shows in return: an error that it queued has its cause
  abbrev pub Shows : Scene → (step : Step) → Found step → Type 0
  Shows w (PostId i from e) found = found ≡ from → (parts from).state ≢ 1 → CauseOf p q clients gives w (call_id i (parts from).first) e
  Shows w other found = Unit {0}

  -- ## Loops

  -- a response that link k gave
  abbrev pub CameFrom : Scene → ℕ → Frame → Type 0
  CameFrom w k frame = (n : ℕ) × Came w k n frame × (has_response frame.meta.response ≡ true)

  -- where a reader stands
  pub record IsReading (w : Scene) (m : Mark) (r : Reading) : Type 0 where
    pub inside : r.link < p.links
    pub link : m.link ≡ r.link ∷ []
    pub goes : GoesFrom m.bytes r.rest
    pub kept : AllByRecursion (CameFrom w r.link) r.kept

  abbrev pub AtHead : Scene → Mark → Head → Type 0
  AtHead w m (Posts id e word) = IsFree m × (is_first (id_first id) (parts word) ≡ true) × (is_stale e (parts word) ≡ false)
  AtHead w m (Unlocks i word advance) = MayUnlock w m i advance × (m.owes ≡ []) × (m.makes ≡ [])
  AtHead w m (Decides id asked word e) = ((shape : Shape) × (m.slot ≡ Holds (id_slot id) (id_first id) shape asked) × HasShape word shape × (asked.range ≡ shape.range)) × IsBorn w id asked × (m.owes ≡ []) × (m.makes ≡ [])
      × (is_stale e (parts word) ≡ false) × (attempt_of e ≢ WHOLE → WasPosted w id e)
  AtHead w m (Locks i sought word) = IsFree m × IsSoughtWord sought word
  AtHead w m (Joins id) = IsFree m
  AtHead w m (Opens o) = IsFree m
  AtHead w m (Reads r) = IsFree m × IsReading w m r
  AtHead w m (Discards k total) = IsFree m × (m.link ≡ k ∷ [])

  -- the mark is the same, but for what it had of a slot
  pub record Again (m m' : Mark) : Type 0 where
    pub slot : Slot
    pub vacant : IsVacant slot
    pub is : m' ≡ with_slot slot m

  abbrev pub MatchesRange : Sought → ℕ → ℕ → Type 0
  MatchesRange (First first) f range = f ≡ first
  MatchesRange (Version v) f range = (f < v) × (v < f + range)

  -- an error that an id took is of the current attempt, or for the whole call
  abbrev pub LeavesPost : Scene → Mark → ℕ → ℕ → Posting → Mark → Type 0
  LeavesPost w m id e (HasLocked word) m' = (shape : Shape) × (m' ≡ with_slot (Locked (id_slot id) (id_first id) shape) m) × HasShape word shape × (is_stale e (parts word) ≡ false) × WasPosted w id e
  LeavesPost w m id e (WasCrowded a b) m' = Again m m' × IsErrorCode p q clients gives a × IsErrorCode p q clients gives b
  LeavesPost w m id e WasQueued m' = Again m m' × WasPosted w id e
  LeavesPost w m id e other m' = Again m m'

  abbrev pub LeavesUnlock : Scene → Mark → ℕ → Unlocking → Mark → Type 0
  LeavesUnlock w m i (IsOpen word) m' = m' ≡ with_slot NoSlot m
  LeavesUnlock w m i (HasNext word e) m' = (m' ≡ with_slot (with_attempt (parts word).attempt m.slot) m) × ((f : ℕ) (shape : Shape) → m.slot ≡ Locked i f shape → CauseOf p q clients gives w (call_id i f) e × ((parts word).range ≡ shape.range)) × (is_stale e (parts word) ≡ false)

  -- an error that ends its call is for the whole of it, or for its last attempt, and final, or comes where no attempt is left; a seat decided on it then
  abbrev pub IsLast : Scene → Birth → ℕ → Type 0
  IsLast w b e = (attempt_of e ≡ WHOLE) ⊎ (EndedAt p q clients gives w b (attempt_of e) × ((is_final (code_of e) ≡ true) ⊎ (attempt_of e + 2 ≡ b.asked.range)) × WasDecided w b e)

  -- the error that ended a call is this one, or, where this one isn't for the whole call, one that was queued
  abbrev pub EndsBy : Scene → Birth → ℕ → ℕ → ℕ → Type 0
  EndsBy w b id e c = ((c ≡ code_of e) × IsLast w b e) ⊎ ((attempt_of e ≢ WHOLE) × (x : ℕ) × (c ≡ code_of x) × CauseOf p q clients gives w id x × IsLast w b x)

  abbrev pub LeavesDecision : Scene → Mark → ℕ → ℕ → Deciding → Mark → Type 0
  LeavesDecision w m id e (HasEnded o c) m' = (b : Birth) × (s : Slot) × IsVacant s × (m' ≡ with_owed (b ∷ []) (with_slot s m)) × (b.id ≡ id) × IsBorn w b.id b.asked × (o ≡ b.asked.operation) × EndsBy w b id e c
  LeavesDecision w m id e GoesOn m' = Again m m' × (attempt_of e ≢ WHOLE)

  abbrev pub LeavesLock : Mark → ℕ → Sought → Locking → Mark → Type 0
  LeavesLock m i sought (Has word) m' = (f : ℕ) × (shape : Shape) × (m' ≡ with_slot (Locked i f shape) m) × ((parts word).first ≡ f) × MatchesRange sought f shape.range
  LeavesLock m i sought (NotThere word) m' = m' ≡ m

  abbrev pub Leaves' : Scene → Mark → (head : Head) → Exit head → Mark → Type 0
  Leaves' w m (Posts id e word) exit m' = LeavesPost w m id e exit m'
  Leaves' w m (Unlocks i word advance) exit m' = LeavesUnlock w m i exit m'
  Leaves' w m (Decides id asked word e) exit m' = LeavesDecision w m id e exit m'
  Leaves' w m (Locks i sought word) exit m' = LeavesLock m i sought exit m'
  Leaves' w m (Reads r) exit m' = (s : Slot) × (bytes : List ℕ) × IsVacant s × (m' ≡ with_bytes bytes (with_slot s m)) × (exit.reading.link ≡ r.link) × (exit.reading.id ≡ r.id) × AllByRecursion (CameFrom w r.link) exit.reading.kept
      × ((exit.code ≡ EEOF) ⊎ ((exit.code ≡ ERESPONSE) × HasFaulted p q clients gives)) × (r.link < p.links)
  Leaves' w m (Discards k total) exit m' = (bytes : List ℕ) × (m' ≡ with_bytes bytes m)
  Leaves' w m head exit m' = m' ≡ m

  abbrev pub YieldsPost : Scene → ℕ → ℕ → Posting → Type 0
  YieldsPost w id e WasQueued = CauseOf p q clients gives w id e
  YieldsPost w id e other = Unit {0}

  abbrev pub Yields : Scene → (head : Head) → Exit head → Type 0
  Yields w (Posts id e word) exit = YieldsPost w id e exit
  Yields w head exit = Unit {0}

  -- ## Programs

  abbrev pub SaysOn : Scene → Mark → Program → Type 0
  SaysOn w m (Do call next) = MayDo call × ((found : ℕ) (w' : Scene) → Later p q clients gives w w' → SaidBy w' (next found) → FindsDo w' m call found → SaysOn w' m (next found))
  -- the outcome of the task that is to be done, or of a range that has ended
  SaysOn w m (Say o outcome next) = ((t : Task) × (ts : List Task) × (m.todo ≡ t ∷ ts) × (o ≡ t.number) × IsFree m × (WhyOwn p q clients gives w m.client m.done t.op outcome × IsJust p q clients gives w t.number t.op outcome) × SaysOn w (with_done t ts m) next)
      ⊎ ((b : Birth) × (m.owes ≡ b ∷ []) × (o ≡ b.asked.operation) × IsBorn w b.id b.asked × WhyEnded p q clients gives w b outcome × SaysOn w (with_owed [] m) next)
  SaysOn w m (Sent o next) = (t : Task) × (ts : List Task) × (n : ℕ) × (bytes : List ℕ) × (m.todo ≡ t ∷ ts) × (o ≡ t.number) × (t.op ≡ ops.Send n bytes) × Named p q clients gives w n × IsFree m × SaysOn w (with_done t ts m) next
  SaysOn w m Rest = IsFree m × (m.todo ≡ [])
  SaysOn w m (TakeMessage r next) = (heading : Heading) (bytes : List ℕ) (w' : Scene) → FitsOwner q heading → Later p q clients gives w w' → SaidBy w' (next heading bytes) → SaysOn w' m (next heading bytes)
  SaysOn w m (TakeHome k next) = (n : ℕ) (w' : Scene) → Later p q clients gives w w' → SaidBy w' (next n) → SaysOn w' m (next n)
  SaysOn w m (PutHome k n after) = (w' : Scene) → Later p q clients gives w w' → SaidBy w' after → SaysOn w' m after
  SaysOn w m (PutBytes k asked bytes next) = (answer : Put) (w' : Scene) → Later p q clients gives w w' → SaidBy w' (next answer) → SaysOn w' m (next answer)
  SaysOn w m (AskReady k next) = (answer : Ready) (w' : Scene) → Later p q clients gives w w' → SaidBy w' (next answer) → SaysOn w' m (next answer)
  SaysOn w m (Write v after) = IsFree m × FitsWriting q v × ((w' : Scene) (m' : Mark) → Later p q clients gives w w' → SaidBy w' after → Again m m' → SaysOn w' m' after)
  SaysOn w m (Aside step next) = MayAside w m step × ((found : Found step) (w' : Scene) (m' : Mark) → Later p q clients gives w w' → SaidBy w' (next found) → Moves w' m step found m' → Shows w' step found × SaysOn w' m' (next found))
  SaysOn w m (Round head next) = AtHead w m head × ((exit : Exit head) (w' : Scene) (m' : Mark) → Later p q clients gives w w' → SaidBy w' (next exit) → Leaves' w' m head exit m' → Yields w' head exit × SaysOn w' m' (next exit))
  SaysOn w m (Keep r next) = SaysOn w m next
  SaysOn w m (Retries requests after) = IsFree m × ((w' : Scene) (m' : Mark) → Later p q clients gives w w' → SaidBy w' after → Again m m' → SaysOn w' m' after)
