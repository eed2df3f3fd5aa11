-- A run as the table of sockets sees it: what each seat did, for which tasks of the clients, and the table that was closed behind them.
use Rattle.std.specs.Prelude.{◌≡◌, ◌⊎◌, ℕ, ◌+◌, ◌*◌, ◌<◌, ◌≤◌, Bool, true, false, if◌then◌else◌, List, [], ◌∷◌, ◌++◌, length, map, flat_map, slice_get, Option, Some, None}
use mathlib.Core.Option.{some}
use lib.ListN.{get_elem?}
use Rattle.atomic_table.specs.declared.shared.Seat.{Seat}
use Rattle.rpc_client.specs.message_parts.specs.Parcels.{parcel_of}
use Rattle.sock_io.specs.declared.link.Out.{Ghosts}
use Rattle.sock_io.specs.LinkHalves.{OutState}
use Rattle.sock_words.specs.ErrorCodes.{EEOF, ERESPONSE}
use Rattle.sock_words.specs.declared.outcome.Outcome.{Outcome}
use Rattle.sock_words.specs.declared.outcome.Outcome.TheVariants as outcome
use Rattle.sock_words.specs.declared.plain.Plan.{Plan}
use Rattle.sock_words.specs.declared.place_word.PlaceWord.{PlaceWord}
use Rattle.sock_words.specs.declared.socket_id.SocketId.{SocketId}
use Rattle.sock_words.specs.declared.vref.Vref.{Vref}
use Rattle.sock_message.specs.Asked.{Asked, name_of, frame_of}
use Rattle.sock_model.specs.declared.view.View.{View}
use Rattle.sock_model.specs.ViewsOfSplitSeats.{newcomer}
use Rattle.rpc_client.specs.sock_rule.specs.declared.homes.Letter.{Letter}
use Rattle.rpc_client.specs.sock_rule.specs.declared.homes.SockHome.{SockHome}
use Rattle.rpc_client.specs.sock_table.specs.ClosedSocketTable.{HasAll, ClosedBy}
use Rattle.rpc_client.specs.sock_table.specs.declared.finding.Noted.TheVariants as noted
use Rattle.seat_programs.specs.declared.task.Op.{Op}
use Rattle.seat_programs.specs.declared.task.Op.TheVariants as ops
use Rattle.seat_programs.specs.declared.task.Task.{Task}
use Rattle.seat_programs.specs.Explained.{AreTasks, IsTask, Became}
use Rattle.sock_deeds.specs.Deeds.{Hand, Did, opens, sends, holds, drops, fails, waits, looks, takes, misses, sets, returns, own_number, Deed, Chain}

-- ## What deeds are done for

-- the operation of this number is this one, of client c
abbrev pub IsOperation : List (List Task) → List (Option Outcome) → ℕ → ℕ → Op → Type 0
IsOperation clients outcomes c number op = IsTask clients outcomes c record { number = number; op = op }

module _ (clients : List (List Task)) (outcomes : List (Option Outcome)) where
  -- a message is that of a send, of which nothing is told where it was accepted; or an attempt of a call, the first one by the client that began it, with the frame that has its id; and a call became unopened exactly where its first attempt found no socket.
  -- The place word of a message is that of its operation and its attempt
  pub data IsMessage (c name number attempt : ℕ) (msg : Letter) (by : Option Outcome) : Type 0 where
    of_send : (bytes : List ℕ) → IsOperation clients outcomes c number (ops.Send name bytes) → attempt ≡ 0 → (parcel_of msg.bytes).bytes ≡ bytes → slice_get outcomes number ≡ Some by → IsMessage c name number attempt msg by
    of_call : (client : ℕ) (asked : Asked) → IsOperation clients outcomes client number (ops.Call asked) → (attempt ≡ 0 → client ≡ c) → attempt ≤ 6 → name ≡ name_of asked attempt → (parcel_of msg.bytes).bytes ≡ frame_of asked msg.owner attempt
        → (attempt ≡ 0 → (by ≡ Some outcome.Unopened → Became clients outcomes number outcome.Unopened) × (Became clients outcomes number outcome.Unopened → by ≡ Some outcome.Unopened)) → IsMessage c name number attempt msg by

  -- a deed of client c is done for a task that asks for it, and what became of it is told of that task; besides, a client waits for names, and gives back in the end what it holds
  abbrev pub IsFor : ℕ → Did → Type 0
  IsFor c (opens name number link by) = IsOperation clients outcomes c number (ops.Open name link) × Became clients outcomes number by
  IsFor c (sends name number attempt msg by) = IsMessage c name number attempt msg by × (msg.label.place ≡ 8 * number + attempt)
  IsFor c (holds name number by) = IsOperation clients outcomes c number (ops.Hold name) × Became clients outcomes number by
  IsFor c (drops name number by) = IsOperation clients outcomes c number (ops.Drop name) × Became clients outcomes number by
  IsFor c (fails name number code by) = IsOperation clients outcomes c number (ops.Fail name code) × Became clients outcomes number by
  IsFor c (waits name) = Unit {0}
  IsFor c (returns id) = Unit {0}
  IsFor c other = ⊥

-- the number of an operation that is done at the table of sockets, or begins there
abbrev pub number_at : ℕ → Op → List ℕ
number_at number (ops.Expire o) = []
number_at number (ops.Join o) = []
number_at number other = number ∷ []

abbrev pub numbers_at : Task → List ℕ
numbers_at t = number_at t.number t.op

-- the number of the operation that a deed is
abbrev pub listed : {A : Type 0} → Option A → List A
listed None = []
listed (Some x) = x ∷ []

abbrev pub numbers_of : {O : Type 0} {g : Ghosts O} {state : O → OutState} {p : Plan} → Deed g state p → List ℕ
numbers_of d = listed (own_number d.did)

-- ## A seat

-- all its deeds, from a new seat on, and what it has in the end
pub record Seated {O : Type 0} (g : Ghosts O) (state : O → OutState) (p : Plan) : Type 0 where
  pub spare : ℕ
  pub deeds : List (Deed g state p)
  pub ended : Hand
  pub chain : Chain g state p deeds record { view = newcomer p [] spare; held = [] } ended
  pub seat : Seat (SockHome O g) View
  pub left : seat.me.0 ≡ ended.view

-- a deed that is done by an `open`'s number or by an id
abbrev pub IsById : Did → Type 0
IsById (looks number noted) = Unit {0}
IsById (takes id) = Unit {0}
IsById (misses id found) = Unit {0}
IsById (sets id code by) = Unit {0}
IsById (returns id) = Unit {0}
IsById other = ⊥

-- one seat more, which has all that these noted, in their order, before its first deed; so whatever they noted stood before all that it did
pub record Ended {O : Type 0} (g : Ghosts O) (state : O → OutState) (p : Plan) (seats : List (Seat (SockHome O g) View)) : Type 0 where
  pub began : Hand
  pub took_in : HasAll seats began.view
  pub deeds : List (Deed g state p)
  pub ended : Hand
  pub chain : Chain g state p deeds began ended
  pub by_ids : (k : ℕ) (d : Deed g state p) → get_elem? deeds k ≡ some d → IsById d.did
  pub seat : Seat (SockHome O g) View
  pub left : seat.me.0 ≡ ended.view

abbrev pub seat_of : {O : Type 0} {g : Ghosts O} {state : O → OutState} {p : Plan} → Seated g state p → Seat (SockHome O g) View
seat_of y = y.seat

-- ## Readers

-- the code with which a reader sets a socket failed: nothing more comes, or what came can't be read
abbrev pub IsReaderCode : ℕ → Type 0
IsReaderCode code = (code ≡ EEOF) ⊎ (code ≡ ERESPONSE)

-- all that the reader of a link did, whose `open` has this number: it looked up what was noted for the `open`; and where a socket was noted and the reading of the link ended early, it set that socket's life failed by the id that it had found, with a reference that it gave back, unless the id was gone
pub data DidRead (number : ℕ) (early : Bool) (dids : List Did) : Type 0 where
  had_none : early ≡ false → dids ≡ looks number noted.Nothing ∷ [] → DidRead number early dids
  left_it : (id : SocketId) → early ≡ false → dids ≡ looks number (noted.Id id) ∷ [] → DidRead number early dids
  missed_it : (id : SocketId) (found : ℕ) → early ≡ true → dids ≡ looks number (noted.Id id) ∷ misses id.0 found ∷ [] → DidRead number early dids
  set_it : (id : SocketId) (code : ℕ) (by : Outcome) → early ≡ true → IsReaderCode code → dids ≡ looks number (noted.Id id) ∷ takes id.0 ∷ sets id.0 code by ∷ returns id.0 ∷ [] → DidRead number early dids

abbrev pub did_in : {O : Type 0} {g : Ghosts O} {state : O → OutState} {p : Plan} → Deed g state p → Did
did_in d = d.did

-- the reader of a link, for which an `open` of this number asks
pub record ReaderSeat {O : Type 0} (g : Ghosts O) (state : O → OutState) (p : Plan) (clients : List (List Task)) (outcomes : List (Option Outcome)) : Type 0 where
  pub sits : Seated g state p
  pub link : ℕ
  pub number : ℕ
  pub client : ℕ
  pub name : ℕ
  pub asked : IsOperation clients outcomes client number (ops.Open name link)
  -- whether its reading ended early
  pub early : Bool
  pub did : DidRead number early (map did_in sits.deeds)

abbrev pub sits_of : {O : Type 0} {g : Ghosts O} {state : O → OutState} {p : Plan} {clients : List (List Task)} {outcomes : List (Option Outcome)} → ReaderSeat g state p clients outcomes → Seated g state p
sits_of r = r.sits

-- its link, where it did
abbrev pub early_of : {O : Type 0} {g : Ghosts O} {state : O → OutState} {p : Plan} {clients : List (List Task)} {outcomes : List (Option Outcome)} → ReaderSeat g state p clients outcomes → List ℕ
early_of r = if r.early then r.link ∷ [] else []

-- ## The run

-- seat c is that of client c; the setup is client 0
pub record DeedRun {O : Type 0} (g : Ghosts O) (state : O → OutState) (p : Plan) (clients : List (List Task)) (outcomes : List (Option Outcome)) (places : List PlaceWord) (vrefs : List Vref) (outs : List O) : Type 0 where
  pub tasks : AreTasks p clients
  pub long : length outcomes ≡ p.operations
  pub seats : List (Seated g state p)
  -- links may have been read beside the clients, each by a seat of its own
  pub readers : List (ReaderSeat g state p clients outcomes)
  -- behind the clients the sockets were ended, by one seat that took in theirs, while links may still have been read; and the table was closed with the seats of the readers and that one
  pub ending : Ended g state p (map seat_of seats)
  pub left : List (Seat (SockHome O g) View)
  pub left_is : map seat_of (map sits_of readers) ++ ending.seat ∷ [] ≡ left
  pub closed : ClosedBy state p left places vrefs outs
  -- each deed is for a task
  pub for_task : (c k : ℕ) (y : Seated g state p) (d : Deed g state p) → get_elem? seats c ≡ some y → get_elem? y.deeds k ≡ some d → IsFor clients outcomes c d.did
  -- there is a seat for each client, and each task that is done at the table has one deed, in the order of the tasks
  pub as_many : length seats ≡ length clients
  pub numbered : (c : ℕ) (y : Seated g state p) (ts : List Task) → get_elem? seats c ≡ some y → slice_get clients c ≡ Some ts → flat_map numbers_of y.deeds ≡ flat_map numbers_at ts
  -- what is told is told of tasks
  pub alone : (n : ℕ) (by : Outcome) → Became clients outcomes n by → (c : ℕ) × (t : Task) × IsTask clients outcomes c t × (t.number ≡ n)
  -- before its first operation each client but the setup waited for each name that the setup opened
  pub waited : (c : ℕ) (y : Seated g state p) → get_elem? seats c ≡ some y → 0 < c → (number n link slot version : ℕ) → IsOperation clients outcomes 0 number (ops.Open n link) → Became clients outcomes number (outcome.Opened slot version link)
      → (i : ℕ) × (d : Deed g state p) × (get_elem? y.deeds i ≡ some d) × (d.did ≡ waits n) × ((j m : ℕ) (e : Deed g state p) → get_elem? y.deeds j ≡ some e → own_number e.did ≡ Some m → i < j)
