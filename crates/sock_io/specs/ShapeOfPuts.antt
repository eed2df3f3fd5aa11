-- A half with a shape, by what callers see of it.
use Rattle.std.specs.Prelude.{ℕ, ◌&&◌, not, Bool, false, List, Option, Some, None, if◌then◌else◌}
use Rattle.sock_words.specs.declared.shape.Shape.{Shape}
use Rattle.sock_io.specs.FaultCauses.{next_number}
use Rattle.brpc_model.specs.ReturnedLink.{HalfAnswer}
use Rattle.sock_io.specs.LinkHalves.{OutState}
use Rattle.sock_io.specs.PutAnswers.{Pacing, pauses_at}

-- a half with a shape: the half inside, how many puts were made, whether the last one answered `Again`, all that it
-- took, its count of faults, and all that it answered
pub record ShapedState : Type 0 where
  pub inner : OutState
  pub shape : Shape
  pub puts : ℕ
  pub paused : Bool
  pub taken : List ℕ
  pub faults : ℕ
  pub answers : List HalfAnswer

-- how its puts go, where the half inside takes all that it is handed
abbrev pub pacing_of : ShapedState → Option Pacing
pacing_of s = if s.inner.whole then Some (record { shape = s.shape; puts = s.puts; paused = s.paused }) else None

-- such a half as a writing half: the next put isn't `Again` where neither its number nor the half inside asks for it
abbrev pub shaped_out : ShapedState → OutState
shaped_out s = record { link = s.inner.link; took = Some s.taken; put_bytes = Some s.taken; way = s.inner.way; faults = s.faults; finished = s.inner.finished; clear = not (pauses_at s.shape (next_number s.puts) && not s.paused) && s.inner.clear; always_ready = s.inner.always_ready; again = s.paused; steady = false; whole = false; pacing = pacing_of s; answers = Some s.answers }
