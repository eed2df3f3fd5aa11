-- A run of clients with calls on threads: what each waited for and did, how main ended the sockets, and the table of sockets that was closed behind them.
use Rattle.std.specs.Prelude.{◌≡◌, ℕ, ◌+◌, ◌≤◌, ◌==◌, ◌&&◌, ◌||◌, if◌then◌else◌, Bool, true, false, List, [], ◌∷◌, ◌++◌, map, length, Some}
use Rattle.std.specs.List.{AllByRecursion}
use Rattle.atomic_table.specs.declared.shared.Seat.{Seat}
use Rattle.sock_io.specs.declared.link.Out.{Ghosts}
use Rattle.sock_io.specs.LinkHalves.{OutState}
use Rattle.sock_words.specs.declared.outcome.Outcome.{Outcome}
use Rattle.sock_words.specs.declared.outcome.Outcome.TheVariants as outcome
use Rattle.sock_words.specs.declared.plain.Plan.{Plan}
use Rattle.sock_words.specs.declared.place_word.PlaceWord.{PlaceWord}
use Rattle.sock_words.specs.declared.socket_id.SocketId.{SocketId}
use Rattle.sock_words.specs.declared.vref.Vref.{Vref}
use Rattle.sock_model.specs.declared.view.View.{View}
use Rattle.sock_model.specs.ViewsOfSplitSeats.{newcomer}
use Rattle.corr_core.specs.declared.marks.Plan as id_plan
use Rattle.corr_core.specs.declared.marks.View as id_view
use Rattle.id_rule.specs.LawfulIdTable.{newcomer as id_newcomer}
use Rattle.sock_message.specs.Asked.{Asked}
use Rattle.seat_programs.specs.declared.task.Op.{Op}
use Rattle.seat_programs.specs.declared.task.Op.TheVariants as ops
use Rattle.seat_programs.specs.declared.task.Task.{Task}
use Rattle.sock_rule.specs.declared.homes.SockHome.{SockHome}
use Rattle.sock_table.specs.declared.passes.LinkPass.{LinkPass}
use Rattle.sock_table.specs.ClosedSocketTable.{ClosedBy}
use Rattle.sock_table.specs.NamesStoredAndFound.{Found}
use Rattle.call_client.specs.rpc_client.specs.declared.acting.Told.{Told}
use Rattle.call_client.specs.call_errors.specs.ClientBooks.{books_of}
use Rattle.call_client.specs.declared.caller.Caller.{Caller}
use Rattle.call_client.specs.ClientRun.{MayMakeAll, RunBy}
use Rattle.call_run.specs.declared.opened.Opening.{Opening}
use Rattle.call_run.specs.EndingOfSockets.{EndedBehind}
use Rattle.call_run.specs.ReadersOfLinks.{LinkReader}

-- ## What clients open

abbrev pub opens_in : Op → ℕ
opens_in (ops.Open n k) = 1
opens_in _ = 0

-- how many sockets they open
abbrev pub opens_of : List Task → ℕ
opens_of [] = 0
opens_of (t ∷ ts) = opens_in t.op + opens_of ts

-- the pass that stands last is of this link, that before it of the next one, and so on
abbrev pub LinksDown : {O : Type 0} {g : Ghosts O} → ℕ → List (LinkPass O g) → Type 0
LinksDown first [] = Unit {0}
LinksDown first (x ∷ xs) = (x.link ≡ first + length xs) × LinksDown first xs

abbrev pub is_opened : Outcome → Bool
is_opened (outcome.Opened slot version link) = true
is_opened _ = false

-- it is told of the operation of this number that it opened a socket
abbrev pub opened_in : ℕ → List Told → Bool
opened_in number [] = false
opened_in number (t ∷ ts) = ((t.number == number) && is_opened t.outcome) || opened_in number ts

-- an `open`, with its number and its name
abbrev pub opening_in : ℕ → Op → List Opening
opening_in number (ops.Open n k) = record { number = number; name = n } ∷ []
opening_in number _ = []

abbrev pub openings : List Task → List Opening
openings [] = []
openings (t ∷ ts) = opening_in t.number t.op ++ openings ts

-- the name of an `open` of which it is told that it got a socket
abbrev pub name_if : List Told → Opening → List ℕ
name_if told o = if opened_in o.number told then o.name ∷ [] else []

abbrev pub opened_names : List Told → List Opening → List ℕ
opened_names told [] = []
opened_names told (o ∷ os) = name_if told o ++ opened_names told os

-- ## A client

-- a seat found a socket under each of these names, one after the other
abbrev pub FoundEach : Plan → List ℕ → View → View → Type 0
FoundEach p [] v w = w ≡ v
FoundEach p (n ∷ ns) v w = (id : SocketId) × (u : View) × Found p n (Some id) v u × FoundEach p ns u w

-- the sizes of the table of ids beside a table of sockets: each client has a seat at both
abbrev pub ids_of : Plan → ℕ → id_plan.Plan
ids_of p slots = record { slots = slots; operations = p.operations + 1; seats = p.seats }

-- a client that made no operation yet and knows of no call
pub record DidNothing {O : Type 0} {g : Ghosts O} (c : Caller O g) : Type 0 where
  pub none_held : c.held.items ≡ []
  pub none_told : c.outcomes.items ≡ []
  pub none_sent : c.sent ≡ 0
  pub books : books_of c.calls ≡ record { retries = []; told = []; starved = false }

-- a client's operations, the names for which it waited before its first one, and the client as it began and as it ended
pub record Thread {O : Type 0} (g : Ghosts O) : Type 0 where
  pub tasks : List Task
  pub names : List ℕ
  pub began : Caller O g
  pub ended : Caller O g

-- a client made all its operations, in their order: with new seats of both tables, and with the passes of the links that begin at this one
pub record IsThread {O : Type 0} {g : Ghosts O} (state : O → OutState) (p : Plan) (q : id_plan.Plan) (first : ℕ) (x : Thread g) : Type 0 where
  pub spare : ℕ
  pub waited : FoundEach p x.names (newcomer p [] spare) x.began.seat.me.0
  pub ids : x.began.calls.seat.me ≡ (id_newcomer, [])
  pub nothing : DidNothing x.began
  pub passes : LinksDown first x.began.passes.items
  pub count : length x.began.passes.items ≡ opens_of x.tasks
  -- memory was wanting for none of them
  pub ran : RunBy state p q false x.tasks x.began x.ended

-- this client and those behind it, each with the links behind those of the one before; each waited for these names
abbrev pub AreThreads : {O : Type 0} {g : Ghosts O} → (O → OutState) → Plan → id_plan.Plan → List ℕ → ℕ → List (Thread g) → Type 0
AreThreads state p q names first [] = Unit {0}
AreThreads state p q names first (x ∷ xs) = IsThread state p q first x × (x.names ≡ names) × AreThreads state p q names (first + opens_of x.tasks) xs

-- ## The run

-- a client may make its operations, with a pass for each that opens a socket
pub record MayRun (p : Plan) (q : id_plan.Plan) (ts : List Task) : Type 0 where
  pub few : length ts ≤ 65535
  pub may : MayMakeAll p q ts (opens_of ts)

abbrev pub AllMayRun : Plan → id_plan.Plan → List (List Task) → Type 0
AllMayRun p q [] = Unit {0}
AllMayRun p q (ts ∷ tss) = MayRun p q ts × AllMayRun p q tss

abbrev pub opens_of_each : List (List Task) → ℕ
opens_of_each [] = 0
opens_of_each (ts ∷ tss) = opens_of ts + opens_of_each tss

-- there are seats for all clients and the setup, and a link for each operation that opens a socket
pub record MayRunAll (p : Plan) (q : id_plan.Plan) (setup : List Task) (clients : List (List Task)) : Type 0 where
  pub setup_may : MayRun p q setup
  pub clients_may : AllMayRun p q clients
  pub seats : length clients + 1 ≤ p.seats
  pub links : opens_of setup + opens_of_each clients ≡ p.links

-- the setup is the first client, and all others wait for the names that it opened; once all have ended, main takes in their seats, and ends the sockets of these `open`s
pub record AllRan {O : Type 0} (g : Ghosts O) (state : O → OutState) (p : Plan) (q : id_plan.Plan) (setup : List Task) (clients : List (List Task)) (opens : List ℕ) (told ended : List (List Told)) (seats : List (Seat (SockHome O g) View)) (ids : List (id_view.View Asked)) : Type 0 where
  pub main : Thread g
  pub others : List (Thread g)
  pub setup_asked : main.tasks ≡ setup
  pub asked : map (λ (x : Thread g). x.tasks) others ≡ clients
  pub alone : main.names ≡ []
  pub main_is : IsThread state p q 0 main
  pub others_are : AreThreads state p q (opened_names main.ended.outcomes.items (openings setup)) (opens_of setup) others
  pub told_is : map (λ (x : Thread g). x.ended.outcomes.items) (main ∷ others) ≡ told
  pub ended_is : map (λ (x : Thread g). x.ended.calls.told.items) (main ∷ others) ≡ ended
  pub ids_are : map (λ (x : Thread g). x.ended.calls.seat.me.0) (main ∷ others) ≡ ids
  pub ending : EndedBehind p opens (map (λ (x : Thread g). x.ended.seat) (main ∷ others)) seats

-- and the table of sockets was closed behind them, and behind the readers of these links, which read beside them
pub record RanWith {O : Type 0} (g : Ghosts O) (state : O → OutState) (readers : List (LinkReader g)) (p : Plan) (slots : ℕ) (setup : List Task) (clients : List (List Task)) (opens : List ℕ) (told ended : List (List Told)) (places : List PlaceWord) (vrefs : List Vref) (outs : List O) (ids : List (id_view.View Asked)) : Type 0 where
  pub seats : List (Seat (SockHome O g) View)
  pub ran : AllRan g state p (ids_of p slots) setup clients opens told ended seats ids
  pub closed : ClosedBy state p (map (λ (x : LinkReader g). x.seat) readers ++ seats) places vrefs outs
  -- no message was accepted from a reader
  pub silent : AllByRecursion (λ (x : LinkReader g). x.seat.me.0.lists ≡ [] ∷ []) readers
