-- Those that run, before and behind, and what they leave.
use Rattle.std.specs.Prelude.{◌≡◌, ℕ, ◌+◌, ◌<◌, ◌≤◌, ◌||◌, false, List, [], ◌++◌, map, All, length, Option, vec_capacity}
use Rattle.std.specs.List.{list_any}
use mathlib.Core.Option.{some}
use lib.ListN.{get_elem?}
use Rattle.atomic_table.specs.Seated.{TableId}
use Rattle.atomic_table.specs.declared.shared.Seat.{Seat}
use Rattle.sock_io.specs.declared.link.Out.{Ghosts}
use Rattle.sock_io.specs.LinkHalves.{OutState}
use Rattle.sock_words.specs.declared.plain.Plan.{Plan}
use Rattle.sock_model.specs.declared.view.View as sock_view
use Rattle.sock_rule.specs.declared.homes.SockHome.{SockHome}
use Rattle.sock_table.specs.ClosedSocketTable.{AllDone, ClosedBy}
use Rattle.sock_open.specs.SocketTableOpening.{IsRoom}
use Rattle.corr_core.specs.IdSlotLaw.{Each}
use Rattle.corr_core.specs.declared.marks.Plan as id_plan
use Rattle.corr_core.specs.declared.marks.View as id_view
use Rattle.corr_id.specs.declared.table.IdTable.{IdTable}
use Rattle.sock_message.specs.Asked.{Asked}
use Rattle.seat_programs.specs.declared.task.Task.{Task}
use Rattle.rpc_reader.specs.ReaderIdSeat.{IsOpen}
use Rattle.call_run.specs.declared.hiring.Room.{Room}
use Rattle.call_run.specs.declared.worker.Worker.{Worker}
use Rattle.call_run.specs.declared.leaving.Left.{Left}
use Rattle.call_run.specs.declared.running.Kit.{Kit}
use Rattle.call_run.specs.declared.running.Cast.{Cast}
use Rattle.call_run.specs.declared.running.Crew.{Crew}
use Rattle.call_run.specs.declared.running.Ran.{Ran}
use Rattle.call_run.specs.Threads.{opens_of, openings, MayRunAll, AllRan}
use Rattle.call_run.specs.Hired.{HasRoom, IsHired, AreHired}
use Rattle.sock_words.specs.Totals.{total as sock_total, total}

-- ## What clients leave

-- nothing yet, with room for what n clients leave
pub record IsRoomFor {O : Type 0} {g : Ghosts O} (n : ℕ) (l : Left O g) : Type 0 where
  pub seats : IsRoom n l.seats
  pub ids : IsRoom n l.ids
  pub told : IsRoom n l.told
  pub ended : IsRoom n l.ended
  pub calm : l.short ≡ false

-- room for what n more leave
pub record HasMore {O : Type 0} {g : Ghosts O} (n : ℕ) (l : Left O g) : Type 0 where
  pub seats : length l.seats.items + n ≤ vec_capacity l.seats
  pub ids : length l.ids.items + n ≤ vec_capacity l.ids
  pub told : length l.told.items + n ≤ vec_capacity l.told
  pub ended : length l.ended.items + n ≤ vec_capacity l.ended

-- what these clients leave stands behind what was there, in the same room
pub record HandedIn {O : Type 0} {g : Ghosts O} (ws : List (Worker O g)) (l m : Left O g) : Type 0 where
  pub seats : m.seats.items ≡ l.seats.items ++ map (λ (w : Worker O g). w.caller.seat) ws
  pub ids : m.ids.items ≡ l.ids.items ++ map (λ (w : Worker O g). w.caller.calls.seat) ws
  pub told : m.told.items ≡ l.told.items ++ map (λ (w : Worker O g). w.caller.outcomes) ws
  pub ended : m.ended.items ≡ l.ended.items ++ map (λ (w : Worker O g). w.caller.calls.told) ws
  pub short : m.short ≡ (l.short || list_any (λ (w : Worker O g). w.short) ws)
  pub room : (vec_capacity m.seats ≡ vec_capacity l.seats) × (vec_capacity m.ids ≡ vec_capacity l.ids) × (vec_capacity m.told ≡ vec_capacity l.told) × (vec_capacity m.ended ≡ vec_capacity l.ended)

-- these are n seats of the table of sockets, or stand for as many, and none has anything
pub record IsLeft {S : Type 0} (z : TableId) (p : Plan) (n : ℕ) (seats : List (Seat S sock_view.View)) : Type 0 where
  pub done : AllDone z p seats
  pub all : sock_total (λ (s : Seat S sock_view.View). s.me.0.share) seats ≡ n

-- each seat is one of this table, stands for some, and has no lock and no slot: the table may be closed with them
abbrev pub AreLeft : {C : Type 0} → TableId → List (Seat (Option C) (id_view.View C)) → Type 0
AreLeft y = Each (λ s. IsOpen y s × (s.me.1 ≡ []))

-- ## Those that run

-- the openings of the setup, and room for their names, for what so many clients and the setup leave, and for the one seat that takes in all others
pub record IsKit {O : Type 0} {g : Ghosts O} (setup : List Task) (clients : ℕ) (k : Kit O g) : Type 0 where
  pub openings_are : k.openings.items ≡ openings setup
  pub names : IsRoom (length (openings setup)) k.names
  pub left : IsRoomFor (clients + 1) k.left
  pub last : IsRoom 1 k.last

-- there is room for these clients and what they leave
pub record IsCast {O : Type 0} {g : Ghosts O} (setup : List Task) (clients : List (List Task)) (c : Cast O g) : Type 0 where
  pub main_is : c.main.tasks.items ≡ setup
  pub main_room : HasRoom c.main
  pub rooms : All HasRoom c.rooms.items
  pub tasks : map (λ (r : Room O g). r.tasks.items) c.rooms.items ≡ clients
  pub workers : IsRoom (length clients) c.workers
  pub kit : IsKit setup (length clients) c.kit

-- each has its seats and the passes of its links
pub record IsCrew {O : Type 0} {g : Ghosts O} (z : TableId) (p : Plan) (y : TableId) (q : id_plan.Plan) (setup : List Task) (clients : List (List Task)) (c : Crew O g) : Type 0 where
  pub main_is : c.main.tasks.items ≡ setup
  pub main_hired : IsHired z p y 0 0 c.main
  pub hired : AreHired z p y 1 (opens_of setup) c.workers.items
  pub tasks : map (λ (w : Worker O g). w.tasks.items) c.workers.items ≡ clients
  pub may : MayRunAll p q setup clients
  pub kit : IsKit setup (length clients) c.kit

-- all operations were made and all sockets ended, unless memory was wanting; what is left stands for a seat of each table for each client and the setup, in one seat of that of sockets
pub record CrewRan {O : Type 0} {g : Ghosts O} (state : O → OutState) (z : TableId) (p : Plan) (y : TableId) (q : id_plan.Plan) (setup : List Task) (clients : List (List Task)) (opens : List ℕ) (l : Left O g) : Type 0 where
  pub left : IsLeft z p (length clients + 1) l.seats.items
  pub alone : length l.seats.items ≡ 1
  pub ids : AreLeft y l.ids.items
  pub all_ids : total (λ (s : Seat (Option Asked) (id_view.View Asked)). s.me.0.share) l.ids.items ≡ length clients + 1
  pub ran : l.short ≡ false → AllRan g state p q setup clients opens (map (λ v. v.items) l.told.items) (map (λ v. v.items) l.ended.items) l.seats.items (map (λ (s : Seat (Option Asked) (id_view.View Asked)). s.me.0) l.ids.items)

-- memory was wanting for none of those that leave this, and the table of sockets was closed with these seats
pub record HasEnded {O : Type 0} {g : Ghosts O} (state : O → OutState) (p : Plan) (seats : List (Seat (SockHome O g) sock_view.View)) (l : Left O g) (table : IdTable Asked) (r : Ran O) : Type 0 where
  pub calm : l.short ≡ false
  pub told : r.told ≡ l.told
  pub ended : r.ended ≡ l.ended
  pub ids : r.ids ≡ table
  pub seats_are : r.seats ≡ l.ids
  pub closed : ClosedBy state p seats r.places.items r.vrefs.items r.outs.items

-- the writing half of each link comes back, in their order
pub record AreBack {O : Type 0} (state : O → OutState) (p : Plan) (outs : List O) : Type 0 where
  pub count : length outs ≡ p.links
  pub each : (k : ℕ) → k < p.links → (o : O) × (get_elem? outs k ≡ some o) × ((state o).link ≡ k)
