-- What is done for a link beside the clients, before and behind its threads.
use Rattle.std.specs.Prelude.{◌≡◌, ℕ, ◌<◌, Bool, false, List, []}
use Rattle.atomic_table.specs.Seated.{TableId}
use Rattle.sock_words.specs.declared.plain.Plan.{Plan}
use Rattle.sock_table.specs.ClosedSocketTable.{IsDoneSeat}
use Rattle.corr_core.specs.declared.marks.Plan as id_plan
use Rattle.sock_io.specs.declared.link.Out.{Ghosts}
use Rattle.sock_io.specs.LinkHalves.{InState}
use Rattle.sock_io.specs.Peer.{PeerState}
use Rattle.rpc_reader.specs.rpc_client.specs.SeatBetweenOperations.{Idle}
use Rattle.rpc_reader.specs.rpc_client.specs.HoldAndDropOutcomes.{IsHolder}
use Rattle.rpc_reader.specs.declared.reader.Reader.{Reader}
use Rattle.rpc_reader.specs.ReaderBooks.{books}
use Rattle.rpc_reader.specs.ReaderRunFromOpen.{RanBy}
use Rattle.rpc_reader.specs.ReaderIdSeat.{IsOpen, Rests}
use Rattle.link_crew.specs.ServingOtherEnd.{ServedToEnd}
use Rattle.link_crew.specs.declared.beside.Beside.{Beside}

-- its reader may wait for the socket of this `open`, and read the link to its end
pub record MayRead {O : Type 0} {g : Ghosts O} (z : TableId) (p : Plan) (y : TableId) (operation : ℕ) (r : Reader O g) : Type 0 where
  pub idle : Idle z p r.seat
  pub holds : IsHolder p [] r.seat.me.0
  pub ids : IsOpen y r.calls.seat
  pub within : operation < p.operations

-- its reader is done, and so are its seats: what it read, by which calls it ended of these operations
pub record HasRead {O : Type 0} {g : Ghosts O} (z : TableId) (p : Plan) (q : id_plan.Plan) (calls : List ℕ) (operation : ℕ) (unread : Bool) (old new : Reader O g) (s t : InState) : Type 0 where
  pub done : IsDoneSeat z p new.seat
  pub share : new.seat.me.0.share ≡ old.seat.me.0.share
  pub lists : new.seat.me.0.lists ≡ old.seat.me.0.lists
  pub ids : Rests old.calls.seat new.calls.seat
  pub ran : RanBy q old.link calls false unread s t p operation old.seat.me.0 new.seat.me.0 (books old.calls) (books new.calls)

abbrev pub IsReady : {O I P : Type 0} {g : Ghosts O} → TableId → Plan → TableId → Beside O I P g → Type 0
IsReady z p y b = MayRead z p y b.operation b.reader

-- its other end was served to its end, and it was read
pub record HasWorked {O I P : Type 0} {g : Ghosts O} (inn : I → InState) (peer : P → PeerState) (z : TableId) (p : Plan) (q : id_plan.Plan) (calls : List ℕ) (old new : Beside O I P g) : Type 0 where
  pub served : ServedToEnd new.unserved (peer old.peer) (peer new.peer)
  pub read : HasRead z p q calls old.operation new.unread old.reader new.reader (inn old.inn) (inn new.inn)
  pub operation : new.operation ≡ old.operation
