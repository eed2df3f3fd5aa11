-- What has happened so far that lasts, and what it tells of calls.
use Rattle.std.specs.Prelude.{ℕ, ◌≡◌, ◌≢◌, ◌+◌, ◌<◌, ◌≤◌, ◌⊎◌, true, false, ◌∷◌, ◌++◌, List, [], slice_get, slice_index, Some, IsSome, pos}
use Rattle.sock_words.specs.ErrorCodes.{EEOF, EFAILEDSOCKET, EREQUESTS, ERESPONSE, ERPCTIMEDOUT, is_final}
use Rattle.sock_words.specs.declared.plain.Plan.{Plan}
use Rattle.sock_words.specs.declared.outcome.Outcome.{Outcome}
use Rattle.sock_words.specs.declared.outcome.Outcome.TheVariants.{Opened, SlotsFull, Unopened, Answered, Peer, CallFailed, Expired, Queued, Late, Crowded, Joined, NotBegun}
use Rattle.seat_programs.specs.brpc_model.specs.Frame.{Frame}
use Rattle.seat_programs.specs.brpc_model.specs.FrameStream.{stream}
use Rattle.seat_programs.specs.brpc_model.specs.LinkFailureCauses.{HasFault}
use Rattle.corr_core.specs.IdSlotWord.{parts, error_of, code_of, attempt_of}
use Rattle.corr_core.specs.declared.marks.Plan.{Plan as IdPlan}
use Rattle.corr_core.specs.EndedByRangeOrAttempt.{WHOLE}
use Rattle.seat_programs.specs.id_rule.specs.LawfulIdTable.{id_index, call_index}
use Rattle.sock_model.specs.SocketTableLayout.{name_index}
use Rattle.sock_message.specs.Asked.{Asked, name_of}
use Rattle.seat_programs.specs.declared.task.Op.{Op}
use Rattle.seat_programs.specs.declared.task.Op.TheVariants as ops
use Rattle.seat_programs.specs.declared.task.Task.{Task}
pub use Rattle.seat_programs.specs.ExplainedCalls.{SeeksName}
use Rattle.seat_programs.specs.Cores.{Core}
use Rattle.call_stories.specs.LinkReadingLists.{gave_in, times}
use Rattle.call_stories.specs.PostsOfRun.{Post}
use Rattle.call_stories.specs.Decided.{Decision}
use Rattle.outcome_stories.specs.OperationStories.{In}
use Rattle.seat_programs.specs.brpc_model.specs.Why.{HasCode}
use Rattle.sock_words.specs.PackedWords.{id_slot, id_first}

-- the id of a call, which has the versions behind it, as many as the call's range less one
pub record Birth : Type 0 where
  pub id : ℕ
  pub asked : Asked

-- an outcome that was said of an operation
pub record Saying : Type 0 where
  pub number : ℕ
  pub outcome : Outcome

-- an id slot that was claimed for the call that is this operation
pub record Claim : Type 0 where
  pub slot : ℕ
  pub operation : ℕ

-- a core, the slots that were claimed so far, the ids that were made, the operations of the calls whose attempt was advanced, the errors that ids took, those on which seats decided, and
-- what was said, each the latest first
pub record Scene : Type 0 where
  pub core : Core
  pub claims : List Claim
  pub births : List Birth
  pub advances : List ℕ
  pub posts : List Post
  pub decisions : List Decision
  pub sayings : List Saying

-- x was added to the list directly behind y
abbrev pub IsFirst : {A : Type 0} → A → List A → Type 0
IsFirst y [] = ⊥
IsFirst y (z ∷ zs) = z ≡ y

abbrev pub IsOver : {A : Type 0} → A → A → List A → Type 0
IsOver x y [] = ⊥
IsOver x y (z ∷ zs) = ((z ≡ x) × IsFirst y zs) ⊎ IsOver x y zs

abbrev pub Said : Scene → ℕ → Outcome → Type 0
Said w o x = In (record { number = o; outcome = x }) w.sayings

abbrev pub IsBorn : Scene → ℕ → Asked → Type 0
IsBorn w id asked = In (record { id = id; asked = asked }) w.births

abbrev pub IsClaimed : Scene → ℕ → ℕ → Type 0
IsClaimed w i o = In (record { slot = i; operation = o }) w.claims

-- the id took this error
abbrev pub WasPosted : Scene → ℕ → ℕ → Type 0
WasPosted w id e = In (record { id = id; error = e }) w.posts

-- a seat decided on this error of the call
abbrev pub WasDecided : Scene → Birth → ℕ → Type 0
WasDecided w b e = In (record { id = b.id; asked = b.asked; error = e }) w.decisions

-- frame n of link k came
abbrev pub Came : Scene → ℕ → ℕ → Frame → Type 0
Came w k n frame = slice_get (stream (gave_in w.core k)).frames n ≡ Some frame

-- it is the response of one of the versions of the call with this id
abbrev pub IsResponseTo : ℕ → Asked → Frame → Type 0
IsResponseTo id asked frame = IsSome frame.meta.response × (id < frame.meta.correlation_id) × (frame.meta.correlation_id < id + asked.range)

abbrev pub IsOpened : Outcome → Type 0
IsOpened (Opened slot version k) = Unit {0}
IsOpened other = ⊥

-- in a run in which the links give these bytes in the end
module _ (p : Plan) (q : IdPlan) (clients : List (List Task)) (gives : ℕ → List ℕ) where
  -- the name had a socket
  abbrev pub Named : Scene → ℕ → Type 0
  Named w n = (n < p.names) × (slice_index w.core.words (name_index p n) ≢ 0)

  -- the word of the call was stored
  abbrev pub Begun : Scene → ℕ → Type 0
  Begun w o = slice_index w.core.calls.words (call_index q o) ≢ 0

  abbrev pub IsTaskOf : ℕ → Task → Type 0
  IsTaskOf c t = (ts : List Task) × (slice_get clients c ≡ Some ts) × In t ts

  -- the bytes of a link have a frame fault
  abbrev pub HasFaulted : Type 0
  HasFaulted = (k : ℕ) × (k < p.links) × HasFault (gives k)

  -- there is a `fail` with this code
  abbrev pub HasFail : ℕ → Type 0
  HasFail code = (c : ℕ) × (t : Task) × (n : ℕ) × IsTaskOf c t × (t.op ≡ ops.Fail n code)

  -- a code of an error that isn't that of an `expire`
  abbrev pub IsOther : ℕ → Type 0
  IsOther code = (code ≡ EFAILEDSOCKET) ⊎ ((code ≡ EEOF) ⊎ (((code ≡ ERESPONSE) × HasFaulted) ⊎ ((code ≡ EREQUESTS) ⊎ ((1500 ≤ code) × (code ≤ 1999) × HasFail code))))

  abbrev pub IsErrorCode : ℕ → Type 0
  IsErrorCode code = (code ≡ ERPCTIMEDOUT) ⊎ IsOther code

  -- an `expire` of the call was told that it ended it, or that its error waits
  abbrev pub IsExpired : Scene → Asked → Type 0
  IsExpired w asked = (client : ℕ) × (t : Task) × IsTaskOf client t × (t.op ≡ ops.Expire asked.operation) × (Said w t.number Expired ⊎ Said w t.number Queued)

  -- the range of an id has ended, and its call had come to attempt n
  abbrev pub EndedAt : Scene → Birth → ℕ → Type 0
  EndedAt w b n = In b w.births × (id_first b.id + b.asked.range ≤ (parts (slice_index w.core.calls.words (id_index (id_slot b.id)))).first) × (times b.asked.operation w.advances ≡ n)

  -- an error of attempt n that ends no call by its code alone was posted to the id
  abbrev pub MayAdvance : Scene → ℕ → ℕ → Type 0
  MayAdvance w id n = (code : ℕ) × WasPosted w id (error_of code n) × (is_final code ≡ false)

  -- a frame that came is a response of the call with this id, and this holds of it
  abbrev pub IsAnsweredIn : Scene → ℕ → Asked → (Frame → Type 0) → Type 0
  IsAnsweredIn w id asked P = (k n : ℕ) × (frame : Frame) × (k < p.links) × Came w k n frame × IsResponseTo id asked frame × P frame

  -- why an error of the id is there: but for that of an `expire` it was posted, and for one attempt
  pub data CauseOf (w : Scene) (id e : ℕ) : Type 0 where
    of_expiry : (asked : Asked) → e ≡ error_of ERPCTIMEDOUT WHOLE → IsBorn w id asked → IsExpired w asked → CauseOf w id e
    of_other : IsOther (code_of e) → attempt_of e ≢ WHOLE → WasPosted w id e → CauseOf w id e

  -- why the call with this id ended with the code: by another error, where that of its last attempt was posted, and a seat decided on it
  pub data FailedIn (w : Scene) (id : ℕ) (asked : Asked) (code : ℕ) : Type 0 where
    by_expiry : code ≡ ERPCTIMEDOUT → IsExpired w asked → FailedIn w id asked code
    by_compression : code ≡ ERESPONSE → IsAnsweredIn w id asked (λ frame. frame.meta.compress_type ≢ pos 0) → FailedIn w id asked code
    by_other : (n : ℕ) → IsOther code → WasPosted w id (error_of code n) → EndedAt w (record { id = id; asked = asked }) n → (is_final code ≡ true) ⊎ (n + 2 ≡ asked.range) → WasDecided w (record { id = id; asked = asked }) (error_of code n) → FailedIn w id asked code

  -- why a call whose range has ended has its outcome
  abbrev pub WhyEnded : Scene → Birth → Outcome → Type 0
  WhyEnded w b (Answered id payload attachment) = (id ≡ b.id) × IsAnsweredIn w b.id b.asked (λ (frame : Frame). HasCode (pos 0) frame × (frame.payload ≡ payload) × (frame.attachment ≡ attachment))
  WhyEnded w b (Peer id code) = (id ≡ b.id) × IsAnsweredIn w b.id b.asked (HasCode code) × (code ≢ pos 0)
  WhyEnded w b (CallFailed id code) = (id ≡ b.id) × FailedIn w b.id b.asked code
  WhyEnded w b other = ⊥

  -- ## Tasks done

  abbrev pub HasNoneOf : Scene → ℕ → Task → Type 0
  HasNoneOf w n t = (k : ℕ) → t.op ≡ ops.Open n k → (x : Outcome) × Said w t.number x × (IsOpened x → ⊥)

  -- no task of the setup gave the name a socket, and none of those before
  pub record NoneFound (w : Scene) (before : List Task) (n : ℕ) : Type 0 where
    pub setup : (t : Task) → IsTaskOf 0 t → HasNoneOf w n t
    pub own : (t : Task) → In t before → HasNoneOf w n t × (SeeksName n t.op → Said w t.number Unopened)

  -- the call that is operation t had begun; if it is of client c, among these tasks
  abbrev pub HasBegunIn : Scene → ℕ → List Task → ℕ → Type 0
  HasBegunIn w c before t = (client : ℕ) × (task : Task) × (id : ℕ) × (asked : Asked) × IsTaskOf client task × (task.op ≡ ops.Call asked) × (task.number ≡ t) × (asked.operation ≡ t) × IsBorn w id asked × (client ≡ c → In task before)

  abbrev pub HasNotBegunIn : Scene → List Task → ℕ → Type 0
  HasNotBegunIn w before t = (task : Task) → In task before → task.number ≡ t → Said w t Unopened

  -- why a task of client c has its outcome, behind these tasks; of those that aren't on calls it is only said whether their name has a socket
  abbrev pub WhyOwn : Scene → ℕ → List Task → Op → Outcome → Type 0
  WhyOwn w c before (ops.Call asked) Unopened = NoneFound w before (name_of asked 0)
  WhyOwn w c before (ops.Call asked) other = ⊥
  WhyOwn w c before (ops.Expire t) Expired = (id : ℕ) × Said w t (CallFailed id ERPCTIMEDOUT)
  WhyOwn w c before (ops.Expire t) Queued = HasBegunIn w c before t
  WhyOwn w c before (ops.Expire t) Late = HasBegunIn w c before t
  WhyOwn w c before (ops.Expire t) (Crowded a b) = HasBegunIn w c before t × IsErrorCode a × IsErrorCode b
  WhyOwn w c before (ops.Expire t) NotBegun = HasNotBegunIn w before t
  WhyOwn w c before (ops.Expire t) other = ⊥
  WhyOwn w c before (ops.Join t) Joined = HasBegunIn w c before t
  WhyOwn w c before (ops.Join t) NotBegun = HasNotBegunIn w before t
  WhyOwn w c before (ops.Join t) other = ⊥
  WhyOwn w c before (ops.Open n k) (Opened slot version l) = Named w n
  WhyOwn w c before (ops.Open n k) SlotsFull = Unit {0}
  WhyOwn w c before (ops.Open n k) other = ⊥
  WhyOwn w c before (ops.Send n bytes) Unopened = NoneFound w before n
  WhyOwn w c before (ops.Send n bytes) other = Named w n
  WhyOwn w c before (ops.Hold n) Unopened = NoneFound w before n
  WhyOwn w c before (ops.Hold n) other = Named w n
  WhyOwn w c before (ops.Fail n code) Unopened = NoneFound w before n
  WhyOwn w c before (ops.Fail n code) other = Named w n
  WhyOwn w c before (ops.Drop n) other = Unit {0}

  -- an `expire` that was told that it ended the call said the call's outcome directly before
  abbrev pub IsJust : Scene → ℕ → Op → Outcome → Type 0
  IsJust w o op Expired = (t id : ℕ) × (op ≡ ops.Expire t) × IsOver (record { number = o; outcome = Expired }) (record { number = t; outcome = CallFailed id ERPCTIMEDOUT }) w.sayings
  IsJust w o op other = Unit {0}

  -- what became of a task of client c that is done, behind these tasks
  pub data ToldOf (w : Scene) (c : ℕ) (before : List Task) (t : Task) : Type 0 where
    was_said : (x : Outcome) → Said w t.number x → WhyOwn w c before t.op x → IsJust w t.number t.op x → ToldOf w c before t
    was_sent : (n : ℕ) (bytes : List ℕ) → t.op ≡ ops.Send n bytes → Named w n → ToldOf w c before t
    was_begun : (id : ℕ) (asked : Asked) → t.op ≡ ops.Call asked → t.number ≡ asked.operation → IsBorn w id asked → Begun w t.number → Named w (name_of asked 0) → ToldOf w c before t

  -- the tasks done, the latest first
  abbrev pub AreTold : Scene → ℕ → List Task → Type 0
  AreTold w c [] = Unit {0}
  AreTold w c (t ∷ ts) = ToldOf w c ts t × AreTold w c ts

  -- ## Later

  -- where each id slot was claimed for another call than this one, there is no room for it
  abbrev pub HasRoom : Scene → Type 0
  HasRoom w = (c : ℕ) (t : Task) (asked : Asked) → IsTaskOf c t → t.op ≡ ops.Call asked → ((i : ℕ) → i < q.slots → (o : ℕ) × IsClaimed w i o × (o ≢ t.number)) → ⊥

  -- what each link gave is the beginning of what it gives in the end
  abbrev pub LeadsTo : Core → Type 0
  LeadsTo c = (k : ℕ) → (more : List ℕ) × (gave_in c k ++ more ≡ gives k)

  abbrev pub StaysWithin : Scene → Type 0
  StaysWithin w = HasRoom w × LeadsTo w.core

  -- what happened lasts; an id is that of one call, and there are as many id slots as calls
  pub record Later (w w' : Scene) : Type 0 where
    pub said : (o : ℕ) (x : Outcome) → Said w o x → Said w' o x
    pub over : (a b : Saying) → IsOver a b w.sayings → IsOver a b w'.sayings
    pub named : (n : ℕ) → Named w n → Named w' n
    pub begun : (o : ℕ) → Begun w o → Begun w' o
    pub born : (id : ℕ) (asked : Asked) → IsBorn w id asked → IsBorn w' id asked
    pub came : (k n : ℕ) (frame : Frame) → Came w k n frame → Came w' k n frame
    pub claimed : (i o : ℕ) → IsClaimed w i o → IsClaimed w' i o
    pub posted : (x : Post) → In x w.posts → In x w'.posts
    pub decided : (d : Decision) → In d w.decisions → In d w'.decisions
    pub ended : (b : Birth) (n : ℕ) → EndedAt w b n → EndedAt w' b n
    pub within : StaysWithin w'
    pub apart : (id : ℕ) (a b : Asked) → IsBorn w' id a → IsBorn w' id b → a ≡ b
