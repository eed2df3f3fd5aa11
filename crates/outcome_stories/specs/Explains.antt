-- A program that says an outcome of each task in order, or has its message accepted, each explained by the steps that were made for it.
use Rattle.std.specs.Prelude.{ℕ, ◌+◌, ◌-◌, ◌%◌, ◌==◌, ◌≡◌, ◌≢◌, ◌<◌, ◌⊎◌, Bool, true, false, if◌then◌else◌, List, [], ◌∷◌, Option, Some, None}
use Rattle.std.specs.List.{AllByRecursion, filter}
use Rattle.sock_words.specs.PackedWords.{socket_id, socket_id_version, socket_id_slot, vref_version, vref_nref}
use Rattle.sock_words.specs.declared.outcome.Outcome.{Outcome}
use Rattle.sock_words.specs.declared.outcome.Outcome.TheVariants.{Opened, SlotsFull, Unopened, Gone, Full, Held, Freed, Kept, NotHeld, Failed, Already}
use Rattle.seat_programs.specs.sock_io.specs.declared.link.Put.{Put}
use Rattle.seat_programs.specs.sock_io.specs.declared.link.Put.TheVariants as puts
use Rattle.seat_programs.specs.sock_io.specs.declared.link.Ready.{Ready}
use Rattle.seat_programs.specs.sock_io.specs.declared.link.Ready.TheVariants as asks
use Rattle.sock_model.specs.declared.chain.Heading.{Heading}
use Rattle.sock_model.specs.declared.marks.Mark.TheVariants.{Hold}
use Rattle.sock_model.specs.MarkWeights.{is_hold}
use Rattle.seat_programs.specs.declared.task.Op.{Op}
use Rattle.seat_programs.specs.declared.task.Op.TheVariants as ops
use Rattle.seat_programs.specs.declared.task.Task.{Task}
use Rattle.seat_programs.specs.TableSteps.{TableStep, OnSlot, OnName, OnChain, OnMessage, ClaimSlot, CreateLife, AddRef, SubRef, SetOdd, Recycle, StoreName, LoadName, LookWord, FindLink, ClaimRequest, PutMessage, Unconnect, SwapHead}
use Rattle.seat_programs.specs.Programs.{Program, Do, Say, Sent, Rest, fail_outcome, TakeMessage, TakeHome, PutHome, PutBytes, AskReady, Write, Aside, Round, Keep, Retries}
use Rattle.seat_programs.specs.Asides.{Step, Found, PutCall, TakeCall}
use Rattle.seat_programs.specs.LoopHeads.{Head, Exit, Opens, Decides, Deciding, HasEnded}
use Rattle.seat_programs.specs.SendAndWritePrograms.{heading_of}
use Rattle.program_walks.specs.program_steps.specs.Writes.{holder_of}
use Rattle.outcome_stories.specs.OperationStories.{Entry, In}

abbrev pub step : TableStep → ℕ → Entry
step call found = record { call = call; found = found }

-- a task that is done, with its outcome, or none where its message was accepted
pub record Done : Type 0 where
  pub task : Task
  pub outcome : Option Outcome

-- of tasks that are done, the latest first, the last `hold` of the name has an outcome of which this holds
abbrev pub LastHold : ℕ → (Outcome → Type 0) → List Done → Type 0
LastHold n P [] = ⊥
LastHold n P (d ∷ ds) = ((d.task.op ≡ ops.Hold n) × (outcome : Outcome) × (d.outcome ≡ Some outcome) × P outcome) ⊎ ((d.task.op ≢ ops.Hold n) × LastHold n P ds)

-- ## What the steps of an operation come to

-- the references to the life h of slot i that an operation has, which had so many before this step
abbrev pub holds_behind : ℕ → ℕ → TableStep → ℕ → ℕ → ℕ
holds_behind i h (OnSlot (AddRef id)) found n = (if socket_id_slot id == i then (if vref_version found == socket_id_version id then is_hold h (Hold (vref_version found)) else 0) else 0) + n
holds_behind i h (OnSlot (SetOdd j)) found n = if j == i then (if vref_version found % 2 == 0 then (if n == 0 then 0 else n + 1) else n) else n
holds_behind i h (OnSlot (SubRef j)) found n = if j == i then n - 1 else n
holds_behind i h other found n = n

abbrev pub holds : ℕ → ℕ → List Entry → ℕ
holds i h [] = 0
holds i h (e ∷ es) = holds_behind i h e.call e.found (holds i h es)

-- it exchanged a head with its ticket
abbrev pub swaps : TableStep → Bool → Bool
swaps (OnChain (SwapHead i own)) before = true
swaps other before = before

abbrev pub swapped : List Entry → Bool
swapped [] = false
swapped (e ∷ es) = swaps e.call (swapped es)

-- ## Steps

-- a step that adds no mark that stays, stores no name, and accepts no message
abbrev pub IsPlain : TableStep → Type 0
IsPlain (OnSlot (ClaimSlot i)) = ⊥
IsPlain (OnSlot (CreateLife i k)) = ⊥
IsPlain (OnSlot (SetOdd i)) = ⊥
IsPlain (OnName (StoreName n w)) = ⊥
IsPlain (OnChain (SwapHead i own)) = ⊥
IsPlain other = Unit {0}

-- a `fail` sets the life failed that it has just reached
abbrev pub FailsLife : Op → List Entry → ℕ → Type 0
FailsLife op trace i = (n code id found : ℕ) × (op ≡ ops.Fail n code) × (trace ≡ step (OnSlot (AddRef id)) found ∷ step (OnName (LoadName n)) (id + 1) ∷ [])
    × (vref_version found ≡ socket_id_version id) × (i ≡ socket_id_slot id)

-- a `send` holds the life of this id, which it found under its name, and found that its link is k
pub record IsWriterOf (t : Task) (trace : List Entry) (id k : ℕ) : Type 0 where
  pub name : ℕ
  pub bytes : List ℕ
  pub op : t.op ≡ ops.Send name bytes
  pub load : In (step (OnName (LoadName name)) (id + 1)) trace
  pub link : In (step (OnSlot (FindLink (socket_id_slot id) (socket_id_version id))) k) trace
  pub holds : 0 < holds (socket_id_slot id) (socket_id_version id) trace

-- and the link answered that it failed
abbrev pub FailsLink : Task → List ℕ → List Entry → ℕ → Type 0
FailsLink t broken trace i = (id k : ℕ) × IsWriterOf t trace id k × (i ≡ socket_id_slot id) × In k broken

-- a `send` claimed a request, put its message there and marked the request's next word, and exchanged no head before
pub record IsReadied (t : Task) (trace : List Entry) : Type 0 where
  pub name : ℕ
  pub bytes : List ℕ
  pub op : t.op ≡ ops.Send name bytes
  pub id : ℕ
  pub request : ℕ
  pub words : ℕ × ℕ
  pub found : ℕ
  pub before : List Entry
  pub trace_is : trace ≡ step (OnChain (Unconnect request)) words.0 ∷ step (OnMessage (PutMessage request (heading_of t.number) bytes)) words.1 ∷ step (OnChain (ClaimRequest id request)) found ∷ before
  pub free : found % 2 ≡ 0
  pub load : In (step (OnName (LoadName name)) (id + 1)) before
  pub first : swapped before ≡ false

-- the task's operation, which made these steps, may make this one, where these links answered that they failed
abbrev pub Fits : Task → List ℕ → List Entry → TableStep → Type 0
Fits t broken trace (OnSlot (CreateLife i k)) = (n : ℕ) × (t.op ≡ ops.Open n k)
Fits t broken trace (OnSlot (SetOdd i)) = FailsLife t.op trace i ⊎ FailsLink t broken trace i
Fits t broken trace (OnName (StoreName n w)) = (k i found : ℕ) × (t.op ≡ ops.Open n k) × In (step (OnSlot (CreateLife i k)) found) trace × (w ≡ socket_id (vref_version found) i + 1)
Fits t broken trace (OnSlot (LookWord id)) = 0 < holds (socket_id_slot id) (socket_id_version id) trace
Fits t broken trace (OnChain (SwapHead i own)) = IsReadied t trace
Fits t broken trace other = Unit {0}

-- ## Outcomes

-- the life of an id that the name had was found to be of another version, or, where it was held, failed
abbrev pub WasGone : ℕ → List Entry → ℕ → Type 0
WasGone n trace found = (id : ℕ) × In (step (OnName (LoadName n)) (id + 1)) trace × In (step (OnSlot (AddRef id)) found) trace × (vref_version found ≢ socket_id_version id)

abbrev pub WasOdd : ℕ → List Entry → ℕ → Type 0
WasOdd n trace found = (id : ℕ) × In (step (OnName (LoadName n)) (id + 1)) trace × In (step (OnSlot (LookWord id)) found) trace × (vref_version found % 2 ≡ 1)

-- the operation's own exchange recycled a slot: it found the word that it expected
abbrev pub WonRecycling : List Entry → Type 0
WonRecycling trace = (i from : ℕ) × In (step (OnSlot (Recycle i from)) from) trace

-- it gave a reference back, and was not the last at a failed life, or its exchange found another word
abbrev pub GaveBackOnly : List Entry → Type 0
GaveBackOnly trace = (i found : ℕ) × In (step (OnSlot (SubRef i)) found) trace
    × ((((vref_version found % 2 ≡ 1) × (vref_nref found ≡ 1)) → ⊥) ⊎ ((other : ℕ) × In (step (OnSlot (Recycle i (found - 1))) other) trace × (other ≢ found - 1)))

-- its exchange recycled none
abbrev pub RecycledNone : List Entry → Type 0
RecycledNone trace = (i from : ℕ) → In (step (OnSlot (Recycle i from)) from) trace → ⊥

-- these steps explain the outcome, behind these tasks, over a table of so many slots and requests
abbrev pub Because : ℕ → ℕ → List Done → List Entry → Op → Outcome → Type 0
Because slots requests done trace (ops.Open n k) (Opened i version l) = (l ≡ k) × (found x : ℕ) × In (step (OnSlot (CreateLife i k)) found) trace × (version ≡ vref_version found)
    × In (step (OnName (StoreName n (socket_id version i + 1))) x) trace
Because slots requests done trace (ops.Open n k) SlotsFull = (i : ℕ) → i < slots → (found : ℕ) × In (step (OnSlot (ClaimSlot i)) found) trace × (found ≢ 0)
Because slots requests done trace (ops.Send n bytes) Unopened = In (step (OnName (LoadName n)) 0) trace
Because slots requests done trace (ops.Send n bytes) (Gone found) = WasGone n trace found.0 ⊎ WasOdd n trace found.0
Because slots requests done trace (ops.Send n bytes) Full = ((id : ℕ) × In (step (OnName (LoadName n)) (id + 1)) trace) × ((q : ℕ) → q < requests → (id found : ℕ) × In (step (OnChain (ClaimRequest id q)) found) trace × (found % 2 ≡ 1))
Because slots requests done trace (ops.Hold n) Unopened = In (step (OnName (LoadName n)) 0) trace
Because slots requests done trace (ops.Hold n) (Gone found) = WasGone n trace found.0
Because slots requests done trace (ops.Hold n) Held = (id : ℕ) × In (step (OnName (LoadName n)) (id + 1)) trace
Because slots requests done trace (ops.Fail n code) Unopened = In (step (OnName (LoadName n)) 0) trace
Because slots requests done trace (ops.Fail n code) (Gone found) = WasGone n trace found.0
Because slots requests done trace (ops.Fail n code) (Already found) = (i : ℕ) × In (step (OnSlot (SetOdd i)) found.0) trace × (vref_version found.0 % 2 ≡ 1)
Because slots requests done trace (ops.Fail n code) Failed = (i found : ℕ) × In (step (OnSlot (SetOdd i)) found) trace × (vref_version found % 2 ≡ 0)
Because slots requests done trace (ops.Drop n) NotHeld = LastHold n (λ outcome. outcome ≢ Held) done
Because slots requests done trace (ops.Drop n) Freed = LastHold n (λ outcome. outcome ≡ Held) done × WonRecycling trace
Because slots requests done trace (ops.Drop n) Kept = LastHold n (λ outcome. outcome ≡ Held) done × GaveBackOnly trace × RecycledNone trace
Because slots requests done trace op outcome = ⊥

abbrev pub IsSend : Op → Type 0
IsSend (ops.Send n bytes) = Unit {0}
IsSend other = ⊥

-- the same, of an operation whose message was accepted too; it exchanged a head just then
abbrev pub IsExplainedBy : ℕ → ℕ → List Done → List Entry → Op → Option Outcome → Type 0
IsExplainedBy slots requests done trace op None = IsSend op × (swapped trace ≡ true)
IsExplainedBy slots requests done trace op (Some outcome) = Because slots requests done trace op outcome × (swapped trace ≡ false)

-- where a `fail` found this word as it set a life failed, its outcome is this one
abbrev pub TellsFail : Op → Option Outcome → ℕ → Type 0
TellsFail (ops.Fail n code) outcome found = outcome ≡ Some (fail_outcome found)
TellsFail other outcome found = Unit {0}

-- a step tells the outcome of its operation
abbrev pub Tells : Op → Option Outcome → Entry → Type 0
Tells op outcome e = elim e.call as (λ c. Type 0) [
  | OnSlot (CreateLife i k) ↦ outcome ≡ Some (Opened i (vref_version e.found) k)
  | OnSlot (SetOdd i) ↦ TellsFail op outcome e.found
  | _ ↦ Unit {0}
]

-- ## Programs

-- what was done is still done, and nothing was done since that tells the outcome of the operation or exchanges a head
pub record Grew (op : Op) (old new : List Entry) : Type 0 where
  pub has : (x : Entry) → In x old → In x new
  pub swap : swapped new ≡ swapped old
  pub tells : (outcome : Option Outcome) → AllByRecursion (Tells op outcome) old → AllByRecursion (Tells op outcome) new

-- the links that failed, with this one where it answers so
abbrev pub broken_put : ℕ → Put → List ℕ → List ℕ
broken_put k puts.Failed broken = k ∷ broken
broken_put k other broken = broken

abbrev pub broken_ready : ℕ → Ready → List ℕ → List ℕ
broken_ready k asks.Failed broken = k ∷ broken
broken_ready k other broken = broken

-- ## Calls

-- what is said of calls is no task's that is explained here: those of `call`, `expire` and `join` are left out
abbrev pub is_plain : Op → Bool
is_plain (ops.Call asked) = false
is_plain (ops.Expire t) = false
is_plain (ops.Join t) = false
is_plain other = true

abbrev pub plain_tasks : List Task → List Task
plain_tasks ts = filter (λ (t : Task). is_plain t.op) ts

-- how a seat stands to its tasks: its steps are made for the task in hand; or beside them, for an attempt of a call; or they close sockets, as
-- those of readers and of the ending do
pub data Way : Type 0 where
  Own : Way
  Beside : Way
  Closing : Way

-- an attempt of a call holds the life of this id, and found that its link is k
pub record IsAttemptOn (trace : List Entry) (id k : ℕ) : Type 0 where
  pub link : In (step (OnSlot (FindLink (socket_id_slot id) (socket_id_version id))) k) trace
  pub holds : 0 < holds (socket_id_slot id) (socket_id_version id) trace

-- and the link answered that it failed
abbrev pub FailsAttempt : List ℕ → List Entry → ℕ → Type 0
FailsAttempt broken trace i = (id k : ℕ) × IsAttemptOn trace id k × (i ≡ socket_id_slot id) × In k broken

-- a seat that gives back what it holds, or closes sockets, makes no life, stores no name and accepts no message
abbrev pub FitsClosing : TableStep → Type 0
FitsClosing (OnSlot (ClaimSlot i)) = ⊥
FitsClosing (OnSlot (CreateLife i k)) = ⊥
FitsClosing (OnName (StoreName n w)) = ⊥
FitsClosing (OnChain (SwapHead i own)) = ⊥
FitsClosing other = Unit {0}

-- the tasks' operations come behind retries, or an attempt of a call does
abbrev pub IsTasked : Way → Type 0
IsTasked Closing = ⊥
IsTasked other = Unit {0}

-- a word of an `open` is waited for by whoever closes sockets only
abbrev pub IsClosing : Way → Type 0
IsClosing Closing = Unit {0}
IsClosing other = ⊥

abbrev pub IsLoopOf : Way → Head → Type 0
IsLoopOf w (Opens o) = IsClosing w
IsLoopOf w head = Unit {0}

-- no step is made for the next task yet
abbrev pub IsBare : Way → List Entry → Type 0
IsBare Own trace = trace ≡ []
IsBare other trace = Unit {0}

-- these operations are calls
module _ (calls : ℕ → Type 0) where
  -- an attempt claimed a request, put its message there and marked the request's next word; the message has parts, as no message of a `send` has
  pub record IsCallReadied (trace : List Entry) : Type 0 where
    pub id : ℕ
    pub request : ℕ
    pub heading : Heading
    pub bytes : List ℕ
    pub words : ℕ × ℕ
    pub found : ℕ
    pub before : List Entry
    pub trace_is : trace ≡ step (OnChain (Unconnect request)) words.0 ∷ step (OnMessage (PutMessage request heading bytes)) words.1 ∷ step (OnChain (ClaimRequest id request)) found ∷ before
    pub free : found % 2 ≡ 0
    pub parts : heading.parts ≢ []
    pub of_call : calls heading.label.operation

  abbrev pub FitsBeside : List ℕ → List Entry → TableStep → Type 0
  FitsBeside broken trace (OnSlot (ClaimSlot i)) = ⊥
  FitsBeside broken trace (OnSlot (CreateLife i k)) = ⊥
  FitsBeside broken trace (OnName (StoreName n w)) = ⊥
  FitsBeside broken trace (OnSlot (SetOdd i)) = FailsAttempt broken trace i
  FitsBeside broken trace (OnChain (SwapHead i own)) = IsCallReadied trace
  FitsBeside broken trace other = Unit {0}

  -- what goes into the home of a call, and what is found there, is one of these
  abbrev pub PutsCall : Step → Type 0
  PutsCall (PutCall i asked) = calls asked.operation
  PutsCall other = Unit {0}

  abbrev pub TakesCall : (step : Step) → Found step → Type 0
  TakesCall (TakeCall i) asked = calls asked.operation
  TakesCall other found = Unit {0}

  abbrev pub DecidesCall : Head → Type 0
  DecidesCall (Decides id asked w e) = calls asked.operation
  DecidesCall other = Unit {0}

  abbrev pub EndedCall : Deciding → Type 0
  EndedCall (HasEnded o c) = calls o
  EndedCall other = Unit {0}

  abbrev pub EndsCall : (head : Head) → Exit head → Type 0
  EndsCall (Decides id asked w e) exit = EndedCall exit
  EndsCall head exit = Unit {0}

module _ (slots requests : ℕ) (calls : ℕ → Type 0) where
  -- behind the tasks done and the steps made, and where these links failed, the program says an outcome of each task in order, and of calls besides
  abbrev pub ExplainsBy : Way → List ℕ → List Done → List Entry → List Task → Program → Type 0
  ExplainsBy Own broken done trace [] (Do call next) = IsPlain call × ((found : ℕ) → ExplainsBy Own broken done trace [] (next found))
  ExplainsBy Own broken done trace (t ∷ ts) (Do call next) = Fits t broken trace call × ((found : ℕ) → ExplainsBy Own broken done (step call found ∷ trace) (t ∷ ts) (next found))
  ExplainsBy Beside broken done trace todo (Do call next) = FitsBeside calls broken trace call × ((found : ℕ) → ExplainsBy Beside broken done (step call found ∷ trace) todo (next found))
  ExplainsBy Closing broken done trace todo (Do call next) = FitsClosing call × ((found : ℕ) → ExplainsBy Closing broken done trace todo (next found))
  ExplainsBy Own broken done trace [] (Say o outcome more) = calls o × ExplainsBy Own broken done trace [] more
  ExplainsBy Own broken done trace (t ∷ ts) (Say o outcome more) = ((o ≡ t.number) × IsExplainedBy slots requests done trace t.op (Some outcome) × AllByRecursion (Tells t.op (Some outcome)) trace
      × ExplainsBy Own broken (record { task = t; outcome = Some outcome } ∷ done) [] ts more) ⊎ (calls o × ExplainsBy Own broken done trace (t ∷ ts) more)
  ExplainsBy Beside broken done trace todo (Say o outcome more) = calls o × ExplainsBy Beside broken done trace todo more
  ExplainsBy Closing broken done trace todo (Say o outcome more) = calls o × ExplainsBy Closing broken done trace todo more
  ExplainsBy Own broken done trace [] (Sent o more) = ⊥
  ExplainsBy Own broken done trace (t ∷ ts) (Sent o more) = (o ≡ t.number) × IsExplainedBy slots requests done trace t.op None × AllByRecursion (Tells t.op None) trace
      × ExplainsBy Own broken (record { task = t; outcome = None } ∷ done) [] ts more
  ExplainsBy Beside broken done trace todo (Sent o more) = ⊥
  ExplainsBy Closing broken done trace todo (Sent o more) = ⊥
  ExplainsBy w broken done trace todo Rest = todo ≡ []
  ExplainsBy w broken done trace todo (TakeMessage q next) = (heading : Heading) (bytes : List ℕ) → ExplainsBy w broken done trace todo (next heading bytes)
  ExplainsBy w broken done trace todo (TakeHome k next) = (places : ℕ) → ExplainsBy w broken done trace todo (next places)
  ExplainsBy w broken done trace todo (PutHome k n after) = ExplainsBy w broken done trace todo after
  ExplainsBy w broken done trace todo (PutBytes k asked bytes next) = (answer : Put) → ExplainsBy w (broken_put k answer broken) done trace todo (next answer)
  ExplainsBy w broken done trace todo (AskReady k next) = (answer : Ready) → ExplainsBy w (broken_ready k answer broken) done trace todo (next answer)
  ExplainsBy Own broken done trace [] (Write v after) = ⊥
  -- whoever writes makes steps that tell no outcome, and links may fail meanwhile
  ExplainsBy Own broken done trace (t ∷ ts) (Write v after) = IsWriterOf t trace (holder_of v).id (holder_of v).link
      × ((longer : List Entry) (others : List ℕ) → Grew t.op trace longer → ((k : ℕ) → In k broken → In k others) → ExplainsBy Own others done longer (t ∷ ts) after)
  ExplainsBy Beside broken done trace todo (Write v after) = IsAttemptOn trace (holder_of v).id (holder_of v).link
      × ((longer : List Entry) (others : List ℕ) → ((k : ℕ) → In k broken → In k others) → ExplainsBy Beside others done longer todo after)
  ExplainsBy Closing broken done trace todo (Write v after) = ⊥
  -- steps aside of the sockets tell no outcome of a task
  ExplainsBy w broken done trace todo (Aside s next) = PutsCall calls s × ((found : Found s) → TakesCall calls s found → ExplainsBy w broken done trace todo (next found))
  ExplainsBy w broken done trace todo (Round head next) = (IsLoopOf w head × DecidesCall calls head) × ((exit : Exit head) → EndsCall calls head exit → ExplainsBy w broken done trace todo (next exit))
  ExplainsBy w broken done trace todo (Keep r next) = ExplainsBy w broken done trace todo next
  ExplainsBy w broken done trace todo (Retries n after) = IsBare w trace × ((w' : Way) × IsTasked w' × ExplainsBy w' broken done [] todo after)

  abbrev pub Explains : List ℕ → List Done → List Entry → List Task → Program → Type 0
  Explains broken done trace todo program = ExplainsBy Own broken done trace todo program
