-- Why each task has its outcome, in scripts with calls: what is told of what links accepted, took and gave, and the causes of all outcomes.
use Rattle.std.specs.Prelude.{ℕ, ◌≡◌, ◌≢◌, ◌+◌, ◌*◌, ◌<◌, ◌≤◌, ◌⊎◌, nat_le, List, [], ◌++◌, slice_get, slice_index, slice_index_or, length, map, flat_map, take, drop, sum_by, Option, Some, None, Contains, IsSome}
use Rattle.std.specs.List.{AllByRecursion}
use Rattle.sock_model.specs.sock_words.specs.declared.plain.Plan.{Plan}
use Rattle.sock_model.specs.sock_words.specs.PackedWords.{place_word}
use Rattle.sock_model.specs.sock_words.specs.declared.outcome.Outcome.{Outcome}
use Rattle.sock_model.specs.sock_words.specs.declared.outcome.Outcome.TheVariants.{Unopened, Failed, Expired}
use Rattle.sock_message.specs.brpc_model.specs.Order.{EachBefore, IsCut}
use Rattle.sock_message.specs.brpc_model.specs.Frame.{Frame, FrameFault}
use Rattle.sock_message.specs.brpc_model.specs.MessageOfLabel.{shown_id}
use Rattle.sock_message.specs.brpc_model.specs.FrameStream.{stream, Fault}
use Rattle.sock_message.specs.brpc_model.specs.Why.{Links, Attempt, Seeking, Ending, Calling, Target}
use Rattle.sock_message.specs.brpc_model.specs.Why as causes
pub use Rattle.sock_message.specs.brpc_model.specs.Why.{WasFailing, RunEnding, WasUnopened, AfterDrop, AfterLoss, AfterFull, ByExpiry, ByCompression, ByFrameFault, ByEnd, BySocket, ByRequests, ByFail}
use Rattle.sock_model.specs.SocketTableLayout.{place_index}
use Rattle.sock_message.specs.Asked.{Asked, name_of, frame_of}
use Rattle.seat_programs.specs.declared.task.Op.{Op}
use Rattle.seat_programs.specs.declared.task.Op.TheVariants as ops
use Rattle.seat_programs.specs.declared.task.Task.{Task}
use Rattle.seat_programs.specs.Cores.{Core}
use Rattle.seat_programs.specs.ScheduledRuns.{from_to}
use Rattle.seat_programs.specs.ScriptSetupToEnding.{took_at_home}
use Rattle.seat_programs.specs.Explained.{IsTask, Became, Made, OpensNone, IsNoLater, HasLife, IsFail, OnSockets, WhyOnSockets}

-- ## What the links accepted

-- a message that a link accepted: the operation that sent it, its attempt, and its bytes
pub record Accepted : Type 0 where
  pub operation : ℕ
  pub attempt : ℕ
  pub bytes : List ℕ

abbrev pub bytes_of : Accepted → List ℕ
bytes_of a = a.bytes

-- the number of its place word
abbrev pub label : Accepted → ℕ
label a = 8 * a.operation + a.attempt

-- the messages of a link in order, and how many of them it took whole
pub record Order : Type 0 where
  pub accepted : List Accepted
  pub placed : ℕ

-- how many messages all of so many links accepted
abbrev pub all_accepted : ℕ → (ℕ → Order) → ℕ
all_accepted links orders = sum_by (λ k. length (orders k).accepted) (from_to 0 links)

-- message a stands at place i of the order of link k
abbrev pub StandsAt : (ℕ → Order) → ℕ → ℕ → Accepted → Type 0
StandsAt orders k i a = slice_get (orders k).accepted i ≡ Some a

-- a link took this: the placed messages, one after another, and then a proper prefix of the next
pub record IsTaken (o : Order) (took : List ℕ) : Type 0 where
  pub cut : List ℕ
  pub took_is : took ≡ flat_map bytes_of (take o.placed o.accepted) ++ cut
  pub is_cut : IsCut cut (map bytes_of (drop o.placed o.accepted))

-- the orders are those that the place words and the links of the core show
pub record AreOrders (p : Plan) (c : Core) (orders : ℕ → Order) : Type 0 where
  -- the word of an accepted message tells its link and its place, and whether it was dropped
  pub written : (k i : ℕ) (a : Accepted) → k < p.links → StandsAt orders k i a → slice_index c.words (place_index p (label a)) ≡ place_word (nat_le (orders k).placed i) k i
  -- and no other word tells anything
  pub alone : (l : ℕ) → l < 8 * p.operations → (slice_index c.words (place_index p l) ≡ 0) ⊎ ((k i : ℕ) × (a : Accepted) × (k < p.links) × StandsAt orders k i a × (l ≡ label a))
  pub within : (k : ℕ) → k < p.links → (orders k).placed ≤ length (orders k).accepted
  pub taken : (k : ℕ) → k < p.links → IsTaken (orders k) (slice_index_or (took_at_home p c.homes) k [])
  -- no message stands in two places
  pub apart : (k l i j : ℕ) (a b : Accepted) → k < p.links → l < p.links → StandsAt orders k i a → StandsAt orders l j b → label a ≡ label b → (k ≡ l) × (i ≡ j)

-- ## What the run fixes besides

pub record Fixed : Type 0 where
  -- the links that answered a put that they failed
  pub broken : List ℕ
  -- the links whose reading ended: early, since they were closed, or with nothing there once the run was ending
  pub early : List ℕ
  pub closed : List ℕ
  pub silent : List ℕ
  -- the operations that had a step while the run was ending, and the links that became a socket's then
  pub late : List ℕ
  pub late_links : List ℕ
  -- the responses, by link and place, that came before their call began
  pub soon : List (ℕ × ℕ)
  -- the `fail` operations that were answered `failed`, each with the link of the life that it failed
  pub fails : List (ℕ × ℕ)

-- an operation looks for a socket of name n
abbrev pub SeeksName : ℕ → Op → Type 0
SeeksName n (ops.Fail m code) = m ≡ n
SeeksName n (ops.Hold m) = m ≡ n
SeeksName n (ops.Send m bytes) = m ≡ n
SeeksName n (ops.Call asked) = name_of asked 0 ≡ n
SeeksName n other = ⊥

module _ (p : Plan) (clients : List (List Task)) (outcomes : List (Option Outcome)) (fixed : Fixed) (gave : ℕ → List ℕ) (orders : ℕ → Order) where
  -- ## Names without a socket

  abbrev pub Seeks : ℕ → Op → Type 0
  Seeks = SeeksName

  -- no task of the setup gave the name a socket, and none of this client before operation o gave it one or found one
  pub record FoundNone (c o n : ℕ) : Type 0 where
    pub setup : (t : Task) → IsTask clients outcomes 0 t → OpensNone clients outcomes n t
    pub own : (t : Task) → IsTask clients outcomes c t → t.number < o → OpensNone clients outcomes n t × (Seeks n t.op → Became clients outcomes t.number Unopened)

  -- ## Failing

  -- a link whose messages may be dropped, by a `fail` that counts or by another cause
  abbrev pub FailingBy : (ℕ → Type 0) → ℕ → Type 0
  FailingBy counts link = ((fail : ℕ) × Contains fixed.fails (fail, link) × counts fail)
      ⊎ (Contains fixed.broken link ⊎ (Contains fixed.early link ⊎ Contains fixed.late_links link))

  -- for a cause that isn't a later `fail` of client c
  abbrev pub MayFail : ℕ → ℕ → ℕ → Type 0
  MayFail c o link = FailingBy (IsNoLater clients outcomes c o) link

  abbrev pub IsFailing : ℕ → Type 0
  IsFailing link = FailingBy (λ f. Unit {0}) link

  -- a life of the name with a version of which this holds, whose link may fail; or the run was ending
  pub record FoundFailed (c o n : ℕ) (P : ℕ → Type 0) : Type 0 where
    pub link : ℕ
    pub slot : ℕ
    pub version : ℕ
    pub made : Made clients outcomes n link slot version
    pub holds : P version
    pub failed : MayFail c o link ⊎ Contains fixed.late o

  -- ## Responses

  -- link k gave this whole frame
  abbrev pub Gave : ℕ → ℕ → Frame → Type 0
  Gave k n frame = (k < p.links) × (slice_get (stream (gave k)).frames n ≡ Some frame)

  abbrev pub GaveFault : ℕ → Type 0
  GaveFault k = (at : ℕ) × (fault : FrameFault) × ((stream (gave k)).ending ≡ Fault at fault)

  -- it is a response of one of the versions of the call with this id
  abbrev pub IsResponse : Asked → ℕ → Frame → Type 0
  IsResponse asked id frame = IsSome frame.meta.response × (id < frame.meta.correlation_id) × (frame.meta.correlation_id < id + asked.range)

  abbrev pub IsAnsweredBy : Asked → ℕ → (Frame → Type 0) → Type 0
  IsAnsweredBy asked id P = causes.IsAnsweredBy (λ k n frame. Gave k n frame) (λ frame. IsResponse asked id frame) P

  -- ## Attempts

  abbrev pub IsAt : ℕ → ℕ → ℕ → ℕ → Type 0
  IsAt o n k i = (k < p.links) × (a : Accepted) × StandsAt orders k i a × (a.operation ≡ o) × (a.attempt ≡ n)

  abbrev pub StandsOn : ℕ → ℕ → ℕ → Type 0
  StandsOn o n k = (i : ℕ) × IsAt o n k i

  abbrev pub IsPlaced : ℕ → ℕ → Type 0
  IsPlaced o n = (k i : ℕ) × IsAt o n k i × (i < (orders k).placed)

  abbrev pub IsDropped : ℕ → ℕ → Type 0
  IsDropped o n = (k i : ℕ) × IsAt o n k i × ((orders k).placed ≤ i)

  abbrev pub IsUnordered : ℕ → ℕ → Type 0
  IsUnordered o n = (k : ℕ) → StandsOn o n k → ⊥

  -- each request may have been found taken
  abbrev pub WasFull : Type 0
  WasFull = p.requests ≤ all_accepted p.links orders

  -- ## Calls that failed

  -- k may be the link of this attempt
  abbrev pub MayBeOn : ℕ → ℕ → ℕ → ℕ → Type 0
  MayBeOn o n name k = (slot version : ℕ) × Made clients outcomes name k slot version × ((l : ℕ) → StandsOn o n l → l ≡ k)

  -- what is told of links
  abbrev pub links_told : Links
  links_told = record {
    IsFailing = λ k. IsFailing k;
    ReadingEnded = λ k. Contains fixed.early k ⊎ (Contains fixed.closed k ⊎ Contains fixed.silent k);
    GaveFault = λ k. GaveFault k;
    Gave = λ k n frame. Gave k n frame;
    CameEarly = λ k n. Contains fixed.soon (k, n);
    WasFull = WasFull;
  }

  -- of attempt n of operation o, to this name
  abbrev pub attempt_told : ℕ → ℕ → ℕ → Attempt
  attempt_told o n name = record {
    IsPlaced = IsPlaced o n;
    IsDropped = IsDropped o n;
    IsUnordered = IsUnordered o n;
    StandsOn = λ k. StandsOn o n k;
    MayBeOn = λ k. MayBeOn o n name k;
  }

  -- and of where it looked for a socket, in client c; a retry any client may have tried behind the call
  abbrev pub seeking_told : ℕ → ℕ → ℕ → ℕ → Seeking
  seeking_told c o n name = record {
    attempt = n;
    IsOfName = λ k. (slot version : ℕ) × Made clients outcomes name k slot version;
    RunEnded = Contains fixed.late o;
    IsClient = λ client. client < length clients;
    IsBehind = λ client m. client ≡ c → o < m;
    FoundNone = λ client m. FoundNone client m name;
  }

  -- why an attempt found no live socket under its name, or lost it
  abbrev pub WhyLost : ℕ → ℕ → ℕ → ℕ → Type 0
  WhyLost c o n name = causes.WhyLost links_told (seeking_told c o n name)

  -- why attempt n was followed by another
  abbrev pub WhyAgain : ℕ → ℕ → ℕ → ℕ → Type 0
  WhyAgain c o n name = causes.WhyAgain links_told (attempt_told o n name) (seeking_told c o n name)

  -- the reading of k ended, for an attempt of a call with this id
  abbrev pub EndedWith : Asked → ℕ → ℕ → ℕ → ℕ → ℕ → Type 0
  EndedWith asked o n name id k = causes.EndedWith links_told (attempt_told o n name) (λ frame. IsResponse asked id frame) k

  -- an `expire` of the call that is operation o with this outcome
  abbrev pub IsExpiredWith : ℕ → Outcome → Type 0
  IsExpiredWith o outcome = (client : ℕ) × (t : Task) × IsTask clients outcomes client t × (t.op ≡ ops.Expire o) × Became clients outcomes t.number outcome

  -- a `fail` of the name with this code was answered `failed`
  abbrev pub IsFailedWith : ℕ → ℕ → Type 0
  IsFailedWith name code = (client : ℕ) × (t : Task) × IsTask clients outcomes client t × (t.op ≡ ops.Fail name code) × Became clients outcomes t.number Failed

  -- what is told of the call that is operation o, with this id; n is its last attempt
  abbrev pub ending_told : ℕ → Asked → ℕ → ℕ → Ending
  ending_told o asked id n = record {
    NoneLeft = n + 2 ≡ asked.range;
    IsResponse = λ frame. IsResponse asked id frame;
    IsExpiredWith = λ outcome. IsExpiredWith o outcome;
    IsFailedWith = λ code. IsFailedWith (name_of asked n) code;
  }

  -- why it ended with the code
  abbrev pub FailedBy : ℕ → ℕ → Asked → ℕ → ℕ → ℕ → Type 0
  FailedBy c o asked id code n = causes.FailedBy links_told (attempt_told o n (name_of asked n)) (seeking_told c o n (name_of asked n)) (ending_told o asked id n) code

  -- ## What is said of another call

  -- the call that is operation t had begun
  abbrev pub HasBegun : ℕ → ℕ → ℕ → Type 0
  HasBegun c o t = (client : ℕ) × (task : Task) × IsTask clients outcomes client task × (task.number ≡ t) × (Became clients outcomes t Unopened → ⊥) × (client ≡ c → t < o)

  abbrev pub MayNotHaveBegun : ℕ → ℕ → ℕ → Type 0
  MayNotHaveBegun c o t = (task : Task) → IsTask clients outcomes c task → task.number ≡ t → t < o → Became clients outcomes t Unopened

  -- the id that the outcome of a call shows
  abbrev pub ShowsId : Outcome → ℕ → Type 0
  ShowsId outcome id = shown_id outcome ≡ Some id

  -- ## Causes

  -- what is told of operation o of client c, if it is on sockets
  abbrev pub sockets_told : ℕ → ℕ → OnSockets
  sockets_told c o = record {
    find = λ n. record { FoundNone = FoundNone c o n; FoundFailed = λ P. FoundFailed c o n P; HasSocket = HasLife clients outcomes n };
    WasFull = WasFull;
    FailsLife = (k : ℕ) × Contains fixed.fails (o, k);
  }

  -- of the call that is operation t, to operation o of client c
  abbrev pub target_told : ℕ → ℕ → ℕ → Target
  target_told c o t = record {
    HasOutcome = λ outcome. Became clients outcomes t outcome;
    HasBegun = HasBegun c o t;
    MayNotHaveBegun = MayNotHaveBegun c o t;
  }

  -- last o is the last attempt of operation o
  module _ (last : ℕ → ℕ) where
    abbrev pub calling_told : ℕ → ℕ → Asked → Calling
    calling_told c o asked = record {
      FoundNone = FoundNone c o (name_of asked 0);
      IsAnswered = λ id P. IsAnsweredBy asked id P;
      HasFailed = λ id code. FailedBy c o asked id code (last o);
    }

    abbrev pub WhyCall : ℕ → ℕ → Asked → Outcome → Type 0
    WhyCall c o asked outcome = causes.CallCause (calling_told c o asked) outcome

    abbrev pub WhyExpire : ℕ → ℕ → ℕ → Outcome → Type 0
    WhyExpire c o t outcome = causes.ExpireCause (target_told c o t) outcome

    abbrev pub WhyJoin : ℕ → ℕ → ℕ → Outcome → Type 0
    WhyJoin c o t outcome = causes.JoinCause (target_told c o t) outcome

    -- why operation o of client c has its outcome
    abbrev pub OutcomeCause : ℕ → ℕ → Op → Outcome → Type 0
    OutcomeCause c o (ops.Call asked) outcome = WhyCall c o asked outcome
    OutcomeCause c o (ops.Expire t) outcome = WhyExpire c o t outcome
    OutcomeCause c o (ops.Join t) outcome = WhyJoin c o t outcome
    OutcomeCause c o op outcome = WhyOnSockets clients outcomes p (sockets_told c o) c o op outcome

    -- message a, which link k accepted, is that of a `send` of which nothing is said, or of an attempt that was made of a call with an id,
    -- to a name of the link's socket
    pub data IsSent (k : ℕ) (a : Accepted) : Type 0 where
      OfSend : (client : ℕ) (t : Task) (name slot version : ℕ) → IsTask clients outcomes client t → t.number ≡ a.operation → t.op ≡ ops.Send name a.bytes → a.attempt ≡ 0 → Made clients outcomes name k slot version
          → slice_get outcomes a.operation ≡ Some None → IsSent k a
      OfCall : (client : ℕ) (t : Task) (asked : Asked) (outcome : Outcome) (id slot version : ℕ) → IsTask clients outcomes client t → t.number ≡ a.operation → t.op ≡ ops.Call asked → Became clients outcomes a.operation outcome → ShowsId outcome id
          → a.attempt ≤ last a.operation → a.bytes ≡ frame_of asked id a.attempt → Made clients outcomes (name_of asked a.attempt) k slot version → IsSent k a

  -- of one client, sends and first attempts stand in the order of its operations
  abbrev pub InOwnOrder : Accepted → Accepted → Type 0
  InOwnOrder a b = (c : ℕ) (t u : Task) → IsTask clients outcomes c t → IsTask clients outcomes c u → t.number ≡ a.operation → u.number ≡ b.operation → a.attempt ≡ 0 → b.attempt ≡ 0 → t.number < u.number

  -- why each task has its outcome, and each link took what it took
  pub record ExplainedCalls (c : Core) : Type 0 where
    pub last : ℕ → ℕ
    pub are_orders : AreOrders p c orders
    -- each task has an outcome, or is a `send` whose message was accepted
    pub told : (client : ℕ) (t : Task) → IsTask clients outcomes client t → ((outcome : Outcome) × Became clients outcomes t.number outcome) ⊎ ((k : ℕ) × StandsOn t.number 0 k)
    pub are : AllByRecursion (IsFail clients outcomes) fixed.fails
    -- each `fail` failed another life
    pub once : EachBefore (λ (f g : ℕ × ℕ). (f.0 ≢ g.0) × (f.1 ≢ g.1)) fixed.fails
    -- no two opens made the same life
    pub lives : (n k m l slot version : ℕ) (a : Made clients outcomes n k slot version) (b : Made clients outcomes m l slot version) → a.task.number ≡ b.task.number
    pub why : (client : ℕ) (t : Task) (outcome : Outcome) → IsTask clients outcomes client t → Became clients outcomes t.number outcome → OutcomeCause last client t.number t.op outcome
    -- each attempt of a call but the last had to be followed by another, and there are no more than it may have
    pub again : (client : ℕ) (t : Task) (asked : Asked) → IsTask clients outcomes client t → t.op ≡ ops.Call asked → (last t.number + 2 ≤ asked.range) × ((n : ℕ) → n < last t.number → WhyAgain client t.number n (name_of asked n))
    pub sent : (k : ℕ) → k < p.links → AllByRecursion (IsSent last k) (orders k).accepted
    pub own_order : (k : ℕ) → k < p.links → EachBefore InOwnOrder (orders k).accepted
    pub dropped : (k : ℕ) → k < p.links → (orders k).placed < length (orders k).accepted → IsFailing k
    -- an `expire` ends a call once at most
    pub expired_once : (c d : ℕ) (t u : Task) (o : ℕ) → IsTask clients outcomes c t → IsTask clients outcomes d u → t.op ≡ ops.Expire o → u.op ≡ ops.Expire o → Became clients outcomes t.number Expired → Became clients outcomes u.number Expired → t.number ≡ u.number
    -- no two calls have a version in common
    pub versions : (c d : ℕ) (t u : Task) (a b : Asked) (x y : Outcome) (i j : ℕ) → IsTask clients outcomes c t → IsTask clients outcomes d u → t.op ≡ ops.Call a → u.op ≡ ops.Call b → Became clients outcomes t.number x → Became clients outcomes u.number y
        → ShowsId x i → ShowsId y j → t.number ≢ u.number → (i + a.range ≤ j) ⊎ (j + b.range ≤ i)
