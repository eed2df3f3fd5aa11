-- A client with its operations, before and behind its thread.
use Rattle.std.specs.Prelude.{◌≡◌, ℕ, ◌<◌, ◌≤◌, false, List, All, length}
use Rattle.atomic_table.specs.Seated.{TableId}
use Rattle.sock_io.specs.declared.link.Out.{Ghosts}
use Rattle.sock_io.specs.LinkHalves.{OutState}
use Rattle.sock_words.specs.declared.plain.Plan.{Plan}
use Rattle.sock_table.specs.ClosedSocketTable.{IsDoneSeat}
use Rattle.corr_core.specs.declared.marks.Plan as id_plan
use Rattle.corr_id.specs.IdTableSeat.{Stays}
use Rattle.call_client.specs.call_errors.specs.ClientBooks.{HasNoLock}
use Rattle.call_client.specs.declared.caller.Caller.{Caller}
use Rattle.call_client.specs.ClientBetweenOperations.{MayGo}
use Rattle.call_client.specs.ClientRun.{MayMakeAll, RunBy}
use Rattle.call_run.specs.declared.worker.Worker.{Worker}
use Rattle.call_run.specs.Threads.{FoundEach}

-- it made no operation yet, and may make all that it has once it found these names
pub record IsReady {O : Type 0} {g : Ghosts O} (z : TableId) (p : Plan) (y : TableId) (q : id_plan.Plan) (names : List ℕ) (w : Worker O g) : Type 0 where
  pub names_fit : All (λ (n : ℕ). n < p.names) names
  pub go : MayGo z p y 0 w.caller
  pub few : length w.tasks.items ≤ 65535
  pub may : MayMakeAll p q w.tasks.items (length w.caller.passes.items)
  pub fed : w.caller.calls.starved ≡ false

-- it waited for these names, and made its operations from then on
pub record HasWorked {O : Type 0} {g : Ghosts O} (state : O → OutState) (z : TableId) (p : Plan) (y : TableId) (q : id_plan.Plan) (names : List ℕ) (old new : Worker O g) : Type 0 where
  pub began : Caller O g
  pub waited : FoundEach p names old.caller.seat.me.0 began.seat.me.0
  pub same : began ≡ record old.caller { seat = began.seat }
  pub ran : RunBy state p q new.short old.tasks.items began new.caller
  pub done : IsDoneSeat z p new.caller.seat
  pub share : new.caller.seat.me.0.share ≡ old.caller.seat.me.0.share
  pub ids : HasNoLock y new.caller.calls
  pub id_stays : Stays old.caller.calls.seat new.caller.calls.seat
  pub id_share : new.caller.calls.seat.me.0.share ≡ old.caller.calls.seat.me.0.share
