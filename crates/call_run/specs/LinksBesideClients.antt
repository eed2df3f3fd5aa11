-- Links that are read beside the clients, from the seats of their readers to what these leave.
use Rattle.std.specs.Prelude.{◌≡◌, ℕ, ◌+◌, ◌<◌, ◌≤◌, ◌||◌, false, List, [], ◌∷◌, ◌++◌, map, length, Option, slice_index_or, vec_capacity}
use Rattle.std.specs.List.{AllByRecursion}
use Rattle.std.specs.VecDeque.{deque_len, deque_capacity}
use Rattle.atomic_table.specs.Seated.{TableId}
use Rattle.atomic_table.specs.declared.shared.Seat.{Seat}
use Rattle.sock_io.specs.declared.link.Out.{Ghosts}
use Rattle.sock_io.specs.LinkHalves.{OutState, InState}
use Rattle.sock_io.specs.Peer.{PeerState}
use Rattle.sock_words.specs.declared.plain.Plan.{Plan}
use Rattle.sock_table.specs.ClosedSocketTable.{IsRoomOf}
use Rattle.sock_open.specs.NewTableContents.{IsNewSeat}
use Rattle.sock_open.specs.SocketTableOpening.{IsRoom}
use Rattle.corr_core.specs.declared.marks.Plan as id_plan
use Rattle.corr_core.specs.declared.marks.View as id_view
use Rattle.corr_id.specs.IdTableOpening.{AreNew}
use Rattle.corr_id.specs.declared.table.IdTable.{IdTable}
use Rattle.sock_message.specs.Asked.{Asked}
use Rattle.seat_programs.specs.declared.task.Task.{Task}
use Rattle.rpc_reader.specs.ReaderBooks.{books}
use Rattle.link_crew.specs.LinkThreadsBesideClients.{HasWorked}
use Rattle.link_crew.specs.declared.beside.Beside.{Beside}
use Rattle.link_crew.specs.declared.beside.Rest.{Rest}
use Rattle.call_run.specs.declared.leaving.Left.{Left}
use Rattle.call_run.specs.declared.links.LinksLeft.{LinksLeft}
use Rattle.call_run.specs.declared.beside.RanBeside.{RanBeside}
use Rattle.call_run.specs.declared.beside.Stage.{Stage}
use Rattle.call_run.specs.Threads.{ids_of}
use Rattle.call_run.specs.Hired.{IsNewId}
use Rattle.call_run.specs.ReadersOfLinks.{LinkReader, nothing_read, AreReaders, AreLeftBy}
use Rattle.call_run.specs.CrewOfRun.{IsLeft, AreLeft, IsCast, HasEnded}
use Rattle.sock_words.specs.Totals.{total}

-- ## Their readers

-- the link of this number has a reader with new seats, that waits for the socket of this `open`
pub record IsSeated {O I P : Type 0} {g : Ghosts O} (z : TableId) (p : Plan) (y : TableId) (link operation : ℕ) (b : Beside O I P g) : Type 0 where
  pub number : b.reader.link ≡ link
  pub operation_is : b.operation ≡ operation
  pub seat : IsNewSeat z p b.reader.seat
  pub ids : IsNewId y b.reader.calls.seat
  pub nothing : books b.reader.calls ≡ nothing_read

-- those from this one on, each for its `open`
abbrev pub AreSeated : {O I P : Type 0} {g : Ghosts O} → TableId → Plan → TableId → ℕ → List ℕ → List (Beside O I P g) → Type 0
AreSeated z p y link [] [] = Unit {0}
AreSeated z p y link (o ∷ os) (b ∷ bs) = IsSeated z p y link o b × AreSeated z p y (link + 1) os bs
AreSeated z p y link [] (b ∷ bs) = ⊥
AreSeated z p y link (o ∷ os) [] = ⊥

-- what it has besides its writing half
abbrev pub rest_of : {O I P : Type 0} {g : Ghosts O} → Beside O I P g → Rest I P
rest_of b = record { inn = b.inn; peer = b.peer }

-- each was served and read
pub record HaveWorked {O I P : Type 0} {g : Ghosts O} (inn : I → InState) (peer : P → PeerState) (z : TableId) (p : Plan) (q : id_plan.Plan) (calls : List ℕ) (old new : List (Beside O I P g)) : Type 0 where
  pub count : length new ≡ length old
  pub each : (i : ℕ) (d : Beside O I P g) → i < length old → HasWorked inn peer z p q calls (slice_index_or old i d) (slice_index_or new i d)

-- ## What they leave

-- nothing yet, with room for what n of them leave, and for one seat of the sockets more
pub record IsLinksRoom {O I P : Type 0} {g : Ghosts O} (n : ℕ) (l : LinksLeft O I P g) : Type 0 where
  pub rests : (l.rests.items ≡ []) × (deque_len l.rests ≡ 0) × (deque_capacity l.rests ≡ n)
  pub seats : IsRoom (n + 1) l.seats
  pub ids : IsRoom n l.ids
  pub told : IsRoom n l.told
  pub early : IsRoom n l.early
  pub calm : l.short ≡ false

-- room for what n more leave, and for that seat
pub record HasMoreLinks {O I P : Type 0} {g : Ghosts O} (n : ℕ) (l : LinksLeft O I P g) : Type 0 where
  pub rests : length l.rests.items + n ≤ deque_capacity l.rests
  pub seats : length l.seats.items + n < vec_capacity l.seats
  pub ids : length l.ids.items + n ≤ vec_capacity l.ids
  pub told : length l.told.items + n ≤ vec_capacity l.told
  pub early : length l.early.items + n ≤ vec_capacity l.early

-- what this one leaves stands behind what was there, in the same room
pub record PartedOne {O I P : Type 0} {g : Ghosts O} (b : Beside O I P g) (l m : LinksLeft O I P g) : Type 0 where
  pub rests : m.rests.items ≡ l.rests.items ++ rest_of b ∷ []
  pub seats : m.seats.items ≡ l.seats.items ++ b.reader.seat ∷ []
  pub ids : m.ids.items ≡ l.ids.items ++ b.reader.calls.seat ∷ []
  pub told : m.told.items ≡ l.told.items ++ b.reader.calls.told ∷ []
  pub early : m.early.items ≡ l.early.items ++ b.reader.calls.early ∷ []
  pub short : m.short ≡ (l.short || (b.unserved || b.unread))
  pub room : (deque_capacity m.rests ≡ deque_capacity l.rests) × (vec_capacity m.seats ≡ vec_capacity l.seats) × (vec_capacity m.ids ≡ vec_capacity l.ids) × (vec_capacity m.told ≡ vec_capacity l.told) × (vec_capacity m.early ≡ vec_capacity l.early)

-- it is what these leave, and there is room for one seat more
pub record AreParted {O I P : Type 0} {g : Ghosts O} (bs : List (Beside O I P g)) (l : LinksLeft O I P g) : Type 0 where
  pub rests : l.rests.items ≡ map rest_of bs
  pub seats : l.seats.items ≡ map (λ (b : Beside O I P g). b.reader.seat) bs
  pub ids : l.ids.items ≡ map (λ (b : Beside O I P g). b.reader.calls.seat) bs
  pub told : l.told.items ≡ map (λ (b : Beside O I P g). b.reader.calls.told) bs
  pub early : l.early.items ≡ map (λ (b : Beside O I P g). b.reader.calls.early) bs
  pub calm : l.short ≡ false → AllByRecursion (λ (b : Beside O I P g). (b.unserved ≡ false) × (b.unread ≡ false)) bs
  pub room : length l.seats.items < vec_capacity l.seats

-- readers of these links that leave this: what they did
pub record AreRead {O I P : Type 0} {g : Ghosts O} (inn : I → InState) (peer : P → PeerState) (p : Plan) (q : id_plan.Plan) (opens calls : List ℕ) (rests : List (Rest I P)) (l : LinksLeft O I P g) : Type 0 where
  pub readers : List (LinkReader g)
  pub are : AreReaders p q calls 0 opens readers
  pub left : AreLeftBy readers (map (λ (x : Rest I P). inn x.inn) rests) (map (λ (x : Rest I P). inn x.inn) l.rests.items) (map (λ (x : Rest I P). peer x.peer) rests) (map (λ (x : Rest I P). peer x.peer) l.rests.items) l.ids.items (map (λ v. v.items) l.told.items) (map (λ v. v.items) l.early.items)
  pub seats : map (λ (x : LinkReader g). x.seat) readers ≡ l.seats.items
  pub silent : AllByRecursion (λ (x : LinkReader g). x.seat.me.0.lists ≡ [] ∷ []) readers

-- the links were served and read, unless memory was wanting; what is left stands for a seat of each table for each of them
pub record LinksRan {O I P : Type 0} {g : Ghosts O} (inn : I → InState) (peer : P → PeerState) (z : TableId) (p : Plan) (y : TableId) (q : id_plan.Plan) (opens calls : List ℕ) (rests : List (Rest I P)) (l : LinksLeft O I P g) : Type 0 where
  pub left : IsLeft z p (length opens) l.seats.items
  pub ids : AreLeft y l.ids.items
  pub all_ids : total (λ (s : Seat (Option Asked) (id_view.View Asked)). s.me.0.share) l.ids.items ≡ length opens
  pub count : length l.rests.items ≡ length rests
  pub room : length l.seats.items < vec_capacity l.seats
  pub read : l.short ≡ false → AreRead inn peer p q opens calls rests l

-- ## The run

-- there is room for all, and there are the table of ids and its seats
pub record IsStage {O I P : Type 0} {g : Ghosts O} (p : Plan) (slots links : ℕ) (setup : List Task) (clients : List (List Task)) (s : Stage O I P g) : Type 0 where
  pub room : IsRoomOf p s.room
  pub cast : IsCast setup clients s.cast
  pub besides : IsRoom links s.links.besides
  pub left : IsLinksRoom links s.links.left
  pub plan : s.ids.plan ≡ ids_of p slots
  pub seats : AreNew s.ids.table.shared.table_id s.id_seats.items × (length s.id_seats.items ≡ p.seats)

-- memory was wanting for none of the clients and the links that leave these, and the table of sockets was closed with both
pub record BothEnded {O I P : Type 0} {g : Ghosts O} (state : O → OutState) (p : Plan) (l : Left O g) (links : LinksLeft O I P g) (table : IdTable Asked) (r : RanBeside O I P) : Type 0 where
  pub calm : links.short ≡ false
  pub ended : HasEnded state p (links.seats.items ++ l.seats.items) l table r.ran
  pub rests : r.rests ≡ links.rests
  pub ids : r.ids ≡ links.ids
  pub told : r.told ≡ links.told
  pub early : r.early ≡ links.early
