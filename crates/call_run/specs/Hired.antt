-- Clients that got their seats and their passes.
use Rattle.std.specs.Prelude.{◌≡◌, ℕ, ◌+◌, ◌-◌, ◌≤◌, List, [], ◌∷◌, All, length, Option}
use Rattle.atomic_table.specs.Seated.{TableId}
use Rattle.atomic_table.specs.declared.shared.Seat.{Seat}
use Rattle.sock_io.specs.declared.link.Out.{Ghosts}
use Rattle.sock_words.specs.declared.plain.Plan.{Plan}
use Rattle.sock_model.specs.declared.view.View.{View}
use Rattle.sock_rule.specs.declared.homes.SockHome.{SockHome}
use Rattle.sock_table.specs.declared.passes.LinkPass.{LinkPass}
use Rattle.sock_table.specs.LinkPasses.{IsPass}
use Rattle.sock_open.specs.NewTableContents.{IsNewSeat, AreNewSeats}
use Rattle.sock_open.specs.SocketTableOpening.{IsRoom}
use Rattle.corr_core.specs.declared.marks.View as id_view
use Rattle.id_rule.specs.LawfulIdTable.{newcomer as id_newcomer}
use Rattle.corr_id.specs.IdTableOpening.{AreNew}
use Rattle.sock_message.specs.Asked.{Asked}
use Rattle.call_client.specs.ClientBetweenOperations.{MayGo}
use Rattle.call_run.specs.Threads.{opens_of, LinksDown, DidNothing}
use Rattle.call_run.specs.declared.hiring.Room.{Room}
use Rattle.call_run.specs.declared.worker.Worker.{Worker}

-- there is room for the passes of the client
abbrev pub HasRoom : {O : Type 0} {g : Ghosts O} → Room O g → Type 0
HasRoom r = IsRoom (opens_of r.tasks.items) r.passes

abbrev pub opens_of_all : {O : Type 0} {g : Ghosts O} → List (Room O g) → ℕ
opens_of_all [] = 0
opens_of_all (r ∷ rs) = opens_of r.tasks.items + opens_of_all rs

-- a seat of the ids with which no step was made: one of those of a new table
abbrev pub IsNewId : {C : Type 0} → TableId → Seat (Option C) (id_view.View C) → Type 0
IsNewId y s = (s.table_id ≡ y) × (s.me ≡ (id_newcomer, []))

-- client n with new seats and the passes of its links, which begin at this one
pub record IsHired {O : Type 0} {g : Ghosts O} (z : TableId) (p : Plan) (y : TableId) (n first : ℕ) (w : Worker O g) : Type 0 where
  pub number : w.number ≡ n
  pub seat : IsNewSeat z p w.caller.seat
  pub ids : IsNewId y w.caller.calls.seat
  pub links : LinksDown first w.caller.passes.items
  pub count : length w.caller.passes.items ≡ opens_of w.tasks.items
  pub nothing : DidNothing w.caller
  pub go : MayGo z p y 0 w.caller

-- clients from n on, one after the other
abbrev pub AreHired : {O : Type 0} {g : Ghosts O} → TableId → Plan → TableId → ℕ → ℕ → List (Worker O g) → Type 0
AreHired z p y n first [] = Unit {0}
AreHired z p y n first (w ∷ ws) = IsHired z p y n first w × AreHired z p y (n + 1) (first + opens_of w.tasks.items) ws

-- there are two seats for each, and they open the sockets of all passes that are left, which are those of the last links
pub record MayHire {O : Type 0} {g : Ghosts O} (z : TableId) (p : Plan) (y : TableId) (rooms : List (Room O g)) (seats : List (Seat (SockHome O g) View)) (ids : List (Seat (Option Asked) (id_view.View Asked))) (passes : List (LinkPass O g)) : Type 0 where
  pub rooms_are : All HasRoom rooms
  pub seats_are : AreNewSeats z p seats
  pub ids_are : AreNew y ids
  pub as_many : (length rooms ≡ length seats) × (length rooms ≡ length ids)
  pub few : length passes ≤ p.links
  pub links : LinksDown (p.links - length passes) passes
  pub passes_are : All (IsPass z p) passes
  pub count : opens_of_all rooms ≡ length passes
