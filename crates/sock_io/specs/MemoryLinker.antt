-- A linker in memory, by what callers see of it.
use Rattle.std.specs.Prelude.{ℕ, ◌==◌, List, [], if◌then◌else◌, None, true, false}
use Rattle.brpc_model.specs.ReturnedLink.{LinkEnd}
use Rattle.sock_io.specs.declared.link.LinkSpec.{LinkSpec}
use Rattle.sock_words.specs.declared.shape.Shape.{Shape}
use Rattle.sock_io.specs.LinkHalves.{OutState}
use Rattle.sock_io.specs.ShapeOfPuts.{ShapedState}

-- the links of a linker in memory: what was asked of each that was opened, how many connections were accepted, those given back, the numbers of the
-- `open` calls that fail, how many `open` calls were made, and the count of faults
pub record MemLinksState : Type 0 where
  pub asked : List LinkSpec
  pub accepted : ℕ
  pub back : List LinkEnd
  pub done : List LinkEnd
  pub fail_opens : List ℕ
  pub calls : ℕ
  pub faults : ℕ

-- the links of a linker that keeps none: what was asked of each, and the links and connections given back
pub record NotedLinksState : Type 0 where
  pub asked : List LinkSpec
  pub back : List LinkEnd
  pub done : List LinkEnd

-- a writing half in memory that was not used yet
abbrev pub new_mem_out : ℕ → OutState
new_mem_out link = record { link = link; took = None; put_bytes = None; way = []; faults = 0; finished = false; clear = true; always_ready = true; again = false; steady = true; whole = true; pacing = None; answers = None }

-- the shape that is asked for: the linker's own failing put stands in where none is
abbrev pub shape_of : LinkSpec → (fail_put : ℕ) → Shape
shape_of spec fail_put = record spec.shape { fail = (if spec.shape.fail == 0 then fail_put else spec.shape.fail) }

-- a half of this shape over memory that took nothing yet
abbrev pub new_half : ℕ → Shape → ShapedState
new_half link shape = record { inner = new_mem_out link; shape = shape; puts = 0; paused = false; taken = []; faults = 0; answers = [] }
