-- The writing half that runs tasks, by what it took and ran.
use Rattle.std.specs.Prelude.{ℕ, Bool, true, false, List, [], Some, None}
use Rattle.sock_io.specs.LinkHalves.{OutState}
use Rattle.exec_queue.specs.declared.task.Task.{Task}

pub record ExecState : Type 0 where
  -- the tasks that the runner ran
  pub ran : List Task
  -- all bytes that were taken
  pub taken : List ℕ
  pub faults : ℕ
  pub finished : Bool

abbrev pub exec_out : ExecState → OutState
exec_out s = record { link = 0; took = Some s.taken; put_bytes = Some s.taken; way = []; faults = s.faults; finished = s.finished; clear = true; always_ready = true; again = false; steady = true; whole = false; pacing = None; answers = None }
