-- What the outcomes of the tasks tell, once each of them is told: why each task has its outcome, by what became of the others.
use Rattle.std.specs.Prelude.{ℕ, ◌≡◌, ◌≢◌, ◌*◌, ◌<◌, ◌≤◌, ◌⊎◌, ◌==◌, ◌&&◌, ◌++◌, Bool, true, false, not, nat_le, if◌then◌else◌, List, [], ◌∷◌, slice_get, slice_index, slice_index_or, length, map, flat_map, take, drop, sum_by, Option, Some, None, Contains}
use Rattle.std.specs.List.{AllByRecursion}
use Rattle.sock_model.specs.sock_words.specs.declared.plain.Plan.{Plan}
use Rattle.sock_model.specs.sock_words.specs.PackedWords.{place_word}
use Rattle.sock_model.specs.sock_words.specs.declared.outcome.Outcome.{Outcome}
use Rattle.sock_model.specs.sock_words.specs.declared.outcome.Outcome.TheVariants.{Opened, Unopened, Failed}
use Rattle.sock_message.specs.brpc_model.specs.Order.{EachBefore, IsCut}
use Rattle.sock_message.specs.brpc_model.specs.Why.{Opening, Finding, Sending}
use Rattle.sock_message.specs.brpc_model.specs.Why as causes
use Rattle.sock_model.specs.SocketTableLayout.{place_index}
use Rattle.seat_programs.specs.declared.task.Op.{Op}
use Rattle.seat_programs.specs.declared.task.Op.TheVariants as ops
use Rattle.seat_programs.specs.declared.task.Task.{Task}
use Rattle.sock_message.specs.Asked.{Asked, name_of, frame_of}
use Rattle.seat_programs.specs.Cores.{Core}
use Rattle.seat_programs.specs.ScheduledRuns.{from_to}
use Rattle.seat_programs.specs.ScriptSetupToEnding.{took_at_home}

-- ## Tasks that a table may be asked for

-- the numbers of a task are those of the table, a message has from 1 to 65,536 bytes, and a code is from 1 to 4,095
pub record AskedFits (p : Plan) (asked : Asked) : Type 0 where
  pub operation : asked.operation < p.operations
  pub names : (n : ℕ) → name_of asked n < p.names
  pub range_low : 2 ≤ asked.range
  pub range_high : asked.range ≤ 8
  -- and each of its frames has so many bytes at most
  pub short : (id n : ℕ) → length (frame_of asked id n) ≤ 131072

abbrev pub OpFits : Plan → Op → Type 0
OpFits p (ops.Open n k) = (n < p.names) × (k < p.links)
OpFits p (ops.Send n bytes) = (n < p.names) × (bytes ≢ []) × (length bytes ≤ 65536)
OpFits p (ops.Call asked) = AskedFits p asked
OpFits p (ops.Expire t) = t < p.operations
OpFits p (ops.Join t) = t < p.operations
OpFits p (ops.Hold n) = n < p.names
OpFits p (ops.Drop n) = n < p.names
OpFits p (ops.Fail n c) = (n < p.names) × (c ≢ 0) × (c < 4096)

abbrev pub TaskFits : Plan → Task → Type 0
TaskFits p t = (t.number < p.operations) × OpFits p t.op

-- no two opens have one link
abbrev pub HaveOwnLinks : Op → Op → Type 0
HaveOwnLinks (ops.Open n k) (ops.Open m l) = k ≢ l
HaveOwnLinks a b = Unit {0}

-- of any two tasks: each has its own number, and its own link
abbrev pub Differ : Task → Task → Type 0
Differ a b = (a.number ≢ b.number) × HaveOwnLinks a.op b.op

abbrev pub IsOpen : Op → Type 0
IsOpen (ops.Open n k) = Unit {0}
IsOpen other = ⊥

-- whether the name is in hand behind one more operation
abbrev pub in_hand_behind : ℕ → Op → Bool → Bool
in_hand_behind n (ops.Hold m) held = if m == n then true else held
in_hand_behind n (ops.Drop m) held = if m == n then false else held
in_hand_behind n other held = held

-- a `hold` of the name comes where it isn't in hand, and a `drop` where it is
abbrev pub goes_well : ℕ → Op → Bool → Bool
goes_well n (ops.Hold m) held = if m == n then not held else true
goes_well n (ops.Drop m) held = if m == n then held else true
goes_well n other held = true

-- the holds and drops of the name alternate
abbrev pub alternate : ℕ → Bool → List Task → Bool
alternate n held [] = true
alternate n held (t ∷ ts) = goes_well n t.op held && alternate n (in_hand_behind n t.op held) ts

-- the tasks of all clients, that of the setup first
pub record AreTasks (p : Plan) (clients : List (List Task)) : Type 0 where
  pub some_ : 0 < length clients
  pub fit : AllByRecursion (AllByRecursion (TaskFits p)) clients
  -- those of a client stand in order of their numbers
  pub in_order : AllByRecursion (EachBefore (λ (a b : Task). (a.number < b.number) × HaveOwnLinks a.op b.op)) clients
  -- and those of two clients differ
  pub differ : EachBefore (λ (ts us : List Task). AllByRecursion (λ (t : Task). AllByRecursion (Differ t) us) ts) clients
  -- the setup opens sockets only
  pub setup : (ts : List Task) → slice_get clients 0 ≡ Some ts → AllByRecursion (λ (t : Task). IsOpen t.op) ts
  pub alternating : (n : ℕ) → AllByRecursion (λ (ts : List Task). alternate n false ts ≡ true) clients
  -- so few that no client could take too many references
  pub few : AllByRecursion (λ (ts : List Task). length ts ≤ 4096) clients

-- ## What the links accepted

-- a message that a link accepted: the operation that sent it, and its bytes
pub record Accepted : Type 0 where
  pub operation : ℕ
  pub bytes : List ℕ

-- the messages of a link in order, and how many of them it took whole
pub record Order : Type 0 where
  pub accepted : List Accepted
  pub placed : ℕ

abbrev pub bytes_of : Accepted → List ℕ
bytes_of a = a.bytes

-- a link took this: the placed messages, one after another, and then a proper prefix of the next
pub record IsTaken (o : Order) (took : List ℕ) : Type 0 where
  pub cut : List ℕ
  pub took_is : took ≡ flat_map bytes_of (take o.placed o.accepted) ++ cut
  pub is_cut : IsCut cut (map bytes_of (drop o.placed o.accepted))

-- message a stands at place i of the order of link k
abbrev pub StandsAt : (ℕ → Order) → ℕ → ℕ → Accepted → Type 0
StandsAt orders k i a = slice_get (orders k).accepted i ≡ Some a

-- how many messages all of so many links accepted
abbrev pub all_accepted : ℕ → (ℕ → Order) → ℕ
all_accepted links orders = sum_by (λ k. length (orders k).accepted) (from_to 0 links)

-- the orders are those that the place words and the links of the core show
pub record AreOrders (p : Plan) (c : Core) (orders : ℕ → Order) : Type 0 where
  -- the word of an accepted message tells its link and its place, and whether it was dropped
  pub written : (k i : ℕ) (a : Accepted) → k < p.links → StandsAt orders k i a → slice_index c.words (place_index p (8 * a.operation)) ≡ place_word (nat_le (orders k).placed i) k i
  -- and no other word tells anything
  pub alone : (l : ℕ) → l < 8 * p.operations → (slice_index c.words (place_index p l) ≡ 0) ⊎ ((k i : ℕ) × (a : Accepted) × (k < p.links) × StandsAt orders k i a × (l ≡ 8 * a.operation))
  pub within : (k : ℕ) → k < p.links → (orders k).placed ≤ length (orders k).accepted
  pub taken : (k : ℕ) → k < p.links → IsTaken (orders k) (slice_index_or (took_at_home p c.homes) k [])
  -- no message stands in two places
  pub apart : (k l i j : ℕ) (a b : Accepted) → k < p.links → l < p.links → StandsAt orders k i a → StandsAt orders l j b → a.operation ≡ b.operation → (k ≡ l) × (i ≡ j)

-- ## What became of them

-- what is told of an operation on sockets: of where it looks for a socket of a name, that each request may be found taken, and that it fails a life
pub record OnSockets : Type 1 where
  pub find : ℕ → Finding
  pub WasFull : Type 0
  pub FailsLife : Type 0

-- and of a send, whose outcome isn't said where its message was accepted
abbrev pub sending_of : OnSockets → ℕ → Sending
sending_of a n = record { find = a.find n; WasFull = a.WasFull; WasPlaced = λ k i. ⊥; WasDropped = λ k i. ⊥ }

module _ (clients : List (List Task)) (outcomes : List (Option Outcome)) where
  -- task t is one of client c's
  abbrev pub IsTask : ℕ → Task → Type 0
  IsTask c t = (ts : List Task) × (slice_get clients c ≡ Some ts) × Contains ts t

  -- operation o has this outcome
  abbrev pub Became : ℕ → Outcome → Type 0
  Became o outcome = slice_get outcomes o ≡ Some (Some outcome)

  -- an `open` of name n with link k made this life
  pub record Made (n k slot version : ℕ) : Type 0 where
    pub client : ℕ
    pub task : Task
    pub is : IsTask client task
    pub op : task.op ≡ ops.Open n k
    pub became : Became task.number (Opened slot version k)

  -- ## Causes

  -- where the task looks for a socket of the name, it found none
  abbrev pub SeeksInVain : ℕ → Task → Type 0
  SeeksInVain n t = (((c : ℕ) × (t.op ≡ ops.Fail n c)) ⊎ ((t.op ≡ ops.Hold n) ⊎ ((bytes : List ℕ) × (t.op ≡ ops.Send n bytes)))) → Became t.number Unopened

  -- a task that opened no socket of the name
  abbrev pub OpensNone : ℕ → Task → Type 0
  OpensNone n t = (k slot version : ℕ) → t.op ≡ ops.Open n k → Became t.number (Opened slot version k) → ⊥

  -- no task of the setup gave the name a socket, and none of this client before operation o gave it one or found one
  pub record FoundNone (c o n : ℕ) : Type 0 where
    pub setup : (t : Task) → IsTask 0 t → OpensNone n t
    pub own : (t : Task) → IsTask c t → t.number < o → OpensNone n t × SeeksInVain n t

  -- operation f isn't a later one of client c
  abbrev pub IsNoLater : ℕ → ℕ → ℕ → Type 0
  IsNoLater c o f = (t : Task) → IsTask c t → t.number ≡ f → f < o

  -- the life with this link was failed by an operation that isn't a later one of client c, or since the link failed
  abbrev pub WasFailed : List (ℕ × ℕ) → List ℕ → ℕ → ℕ → ℕ → Type 0
  WasFailed fails broken c o link = ((fail : ℕ) × Contains fails (fail, link) × IsNoLater c o fail) ⊎ Contains broken link

  -- so was a life of the name with a version of which this holds
  pub record FoundFailed (fails : List (ℕ × ℕ)) (broken : List ℕ) (c o n : ℕ) (P : ℕ → Type 0) : Type 0 where
    pub link : ℕ
    pub slot : ℕ
    pub version : ℕ
    pub made : Made n link slot version
    pub holds : P version
    pub failed : WasFailed fails broken c o link

  -- the last `hold` of the name by client c before operation o has an outcome of which this holds
  pub record AfterHold (c o n : ℕ) (P : Outcome → Type 0) : Type 0 where
    pub hold : Task
    pub is : IsTask c hold
    pub op : hold.op ≡ ops.Hold n
    pub before : hold.number < o
    pub last : (t : Task) → IsTask c t → hold.number < t.number → t.number < o → t.op ≢ ops.Hold n
    pub outcome : Outcome
    pub became : Became hold.number outcome
    pub holds : P outcome

  -- an `open` of the name made a socket
  abbrev pub HasLife : ℕ → Type 0
  HasLife n = (k slot version : ℕ) × Made n k slot version

  -- each slot of the table was opened
  abbrev pub EachOpened : Plan → Type 0
  EachOpened p = (slot : ℕ) → slot < p.slots → (n k version : ℕ) × Made n k slot version

  -- ## The causes of operations on sockets

  -- what is told of an `open` with link k
  abbrev pub opening_of : Plan → ℕ → Opening
  opening_of p k = record { link = k; slots = p.slots; first = p.first; NoneFree = EachOpened p }

  -- why operation o of client c has its outcome, by what is told of it
  abbrev pub WhyOnSockets : Plan → OnSockets → ℕ → ℕ → Op → Outcome → Type 0
  WhyOnSockets p a c o (ops.Open n k) outcome = causes.OpenCause (opening_of p k) outcome
  WhyOnSockets p a c o (ops.Send n bytes) outcome = causes.SendCause (sending_of a n) outcome
  WhyOnSockets p a c o (ops.Hold n) outcome = causes.HoldCause (a.find n) outcome
  WhyOnSockets p a c o (ops.Fail n code) outcome = causes.FailCause (a.find n) a.FailsLife outcome
  WhyOnSockets p a c o (ops.Drop n) outcome = causes.DropCause (λ P. AfterHold c o n P) outcome
  WhyOnSockets p a c o op outcome = ⊥

  -- the `fail` operation of this pair was answered `failed`, and its name had this link
  pub record IsFail (fail : ℕ × ℕ) : Type 0 where
    pub client : ℕ
    pub task : Task
    pub is : IsTask client task
    pub numbered : task.number ≡ fail.0
    pub name : ℕ
    pub code : ℕ
    pub op : task.op ≡ ops.Fail name code
    pub became : Became fail.0 Failed
    pub slot : ℕ
    pub version : ℕ
    pub life : Made name fail.1 slot version

  -- message a, which link k accepted, is that of a `send` to a name of the link's socket, of which nothing is said
  pub record IsSent (k : ℕ) (a : Accepted) : Type 0 where
    pub client : ℕ
    pub task : Task
    pub is : IsTask client task
    pub numbered : task.number ≡ a.operation
    pub name : ℕ
    pub op : task.op ≡ ops.Send name a.bytes
    pub slot : ℕ
    pub version : ℕ
    pub life : Made name k slot version
    pub untold : slice_get outcomes a.operation ≡ Some None

  -- of one client, the message of an earlier operation stands before that of a later one
  abbrev pub InOwnOrder : Accepted → Accepted → Type 0
  InOwnOrder a b = (c : ℕ) (t u : Task) → IsTask c t → IsTask c u → t.number ≡ a.operation → u.number ≡ b.operation → t.number < u.number

  module _ (p : Plan) (fails : List (ℕ × ℕ)) (broken : List ℕ) (orders : ℕ → Order) where
    -- what is told of operation o of client c
    abbrev pub on_sockets : ℕ → ℕ → OnSockets
    on_sockets c o = record {
      find = λ n. record { FoundNone = FoundNone c o n; FoundFailed = λ P. FoundFailed fails broken c o n P; HasSocket = HasLife n };
      WasFull = p.requests ≤ all_accepted p.links orders;
      FailsLife = (k : ℕ) × Contains fails (o, k);
    }

    -- why it has its outcome
    abbrev pub OutcomeCause : ℕ → ℕ → Op → Outcome → Type 0
    OutcomeCause c o op outcome = WhyOnSockets p (on_sockets c o) c o op outcome

  -- why each task has its outcome, and each link took what it took; these links answered that they failed
  pub record Explained (p : Plan) (c : Core) (broken : List ℕ) : Type 0 where
    pub orders : ℕ → Order
    pub are_orders : AreOrders p c orders
    -- each task has an outcome, or is a `send` whose message was accepted
    pub told : (client : ℕ) (t : Task) → IsTask client t → ((outcome : Outcome) × Became t.number outcome)
        ⊎ ((k i : ℕ) × (a : Accepted) × (k < p.links) × StandsAt orders k i a × (a.operation ≡ t.number))
    -- the `fail` operations that were answered `failed`, each with the link of the life that it failed
    pub fails : List (ℕ × ℕ)
    pub are : AllByRecursion IsFail fails
    -- each failed another life
    pub once : EachBefore (λ (f g : ℕ × ℕ). (f.0 ≢ g.0) × (f.1 ≢ g.1)) fails
    -- no two opens made the same life
    pub lives : (n k m l slot version : ℕ) (a : Made n k slot version) (b : Made m l slot version) → a.task.number ≡ b.task.number
    -- each outcome has its cause
    pub why : (client : ℕ) (t : Task) (outcome : Outcome) → IsTask client t → Became t.number outcome → OutcomeCause p fails broken orders client t.number t.op outcome
    -- what a link accepted was sent to its socket, by each client in the order of its operations
    pub sent : (k : ℕ) → k < p.links → AllByRecursion (IsSent k) (orders k).accepted
    pub own_order : (k : ℕ) → k < p.links → EachBefore InOwnOrder (orders k).accepted
    -- and messages are dropped only where the link's life was failed
    pub dropped : (k : ℕ) → k < p.links → (orders k).placed < length (orders k).accepted → Contains broken k ⊎ ((fail : ℕ) × Contains fails (fail, k))
