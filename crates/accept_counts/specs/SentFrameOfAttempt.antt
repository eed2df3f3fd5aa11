-- Whose messages links accepted, as far as steps on the table of the sockets tell.
use Rattle.std.specs.Prelude.{ℕ, ◌≡◌, ◌≤◌, List, Option}
use Rattle.sock_words.specs.declared.outcome.Outcome.{Outcome}
use Rattle.sock_message.specs.Asked.{Asked, frame_of}
use Rattle.seat_programs.specs.declared.task.Op.TheVariants as ops
use Rattle.seat_programs.specs.declared.task.Task.{Task}
use Rattle.seat_programs.specs.Explained.{IsTask}
use Rattle.seat_programs.specs.ExplainedCalls.{Accepted}

-- the message is the frame of an attempt of a call of the clients; `ids o` is the id of operation o's call
pub record IsAttempt (ids : ℕ → ℕ) (clients : List (List Task)) (outcomes : List (Option Outcome)) (a : Accepted) : Type 0 where
  pub client : ℕ
  pub task : Task
  pub is : IsTask clients outcomes client task
  pub numbered : task.number ≡ a.operation
  pub asked : Asked
  pub op : task.op ≡ ops.Call asked
  pub few : a.attempt ≤ 6
  pub frame : a.bytes ≡ frame_of asked (ids a.operation) a.attempt
