-- A frame that is the request of an attempt of a call, where the outcomes show the calls' ids and this tells the last attempt of each.
use Rattle.std.proofs.Common.{◌≡◌, ℕ, ◌+◌, ◌≤◌, List, Option, Some}
use Rattle.sock_words.specs.declared.outcome.Outcome.{Outcome}
use Rattle.brpc_model.specs.Frame.{Frame}
use Rattle.brpc_model.specs.MessageOfLabel.{shown_id}
use Rattle.sock_message.specs.Asked.{Asked, request_of}
use Rattle.seat_programs.specs.declared.task.Op.TheVariants as ops
use Rattle.seat_programs.specs.declared.task.Task.{Task}
use Rattle.seat_programs.specs.Explained.{IsTask, Became}
use Rattle.served_runs.proofs.WholeFrameStreams.{IsSmall}

pub record IsRequestOf (tasks : List (List Task)) (outcomes : List (Option Outcome)) (last : ℕ → ℕ) (f : Frame) : Type 0 where
  pub client : ℕ
  pub task : Task
  pub is_task : IsTask tasks outcomes client task
  pub asked : Asked
  pub op : task.op ≡ ops.Call asked
  pub outcome : Outcome
  pub became : Became tasks outcomes task.number outcome
  pub id : ℕ
  pub shows : shown_id outcome ≡ Some id
  pub attempt : ℕ
  pub few : attempt + 2 ≤ asked.range
  pub tried : attempt ≤ last task.number
  pub small : IsSmall asked id attempt
  pub frame : f ≡ request_of asked id attempt
