-- What the header of a frame tells.
use Rattle.std.specs.Prelude.{◌≡◌, ℕ, ◌+◌, ◌≤◌, ◌==◌, Bool, not, ◌&&◌, List, length, take, drop, Option, Some, None, Result, Ok, Err}
use Rattle.rpc_meta.specs.brpc_model.specs.Frame.{NoneYet, judged, body_judged, high_first, matching}
use Rattle.rpc_meta.specs.brpc_model.specs.Meta.{read_meta}
use Rattle.prpc_frame.specs.FrameMeaning.{IsFault}
use Rattle.prpc_frame.specs.declared.fault.FrameFault.{FrameFault}
use Rattle.prpc_frame.specs.declared.header.Sizes.{Sizes}

-- one of the first four bytes is there and differs from the magic
abbrev pub magic_wrong : List ℕ → Bool
magic_wrong bytes = not (matching bytes == 4) && not (matching bytes == length bytes)

-- the size of the body that the header states
abbrev pub body_size : List ℕ → ℕ
body_size bytes = high_first (take 4 (drop 4 bytes))

-- the size of the meta that the header states
abbrev pub meta_size : List ℕ → ℕ
meta_size bytes = high_first (take 4 (drop 8 bytes))

-- a body of this size behind the header
abbrev pub inside_of : ℕ → List ℕ → List ℕ
inside_of body bytes = take body (drop 12 bytes)

-- the bytes are judged by the body alone, which is whole and of these sizes
pub record IsWhole (bytes : List ℕ) (meta body : ℕ) : Type 0 where
  pub there : 12 + body ≤ length bytes
  pub fits : meta ≤ body
  pub size : body ≡ body_size bytes
  pub means : judged bytes ≡ body_judged (read_meta (take meta (inside_of body bytes))) (drop meta (inside_of body bytes)) body

-- a fault, none yet, or the sizes of what is whole
abbrev pub HeaderSays : List ℕ → Result (Option Sizes) FrameFault → Type 0
HeaderSays bytes (Err fault) = IsFault (judged bytes) fault
HeaderSays bytes (Ok None) = judged bytes ≡ NoneYet
HeaderSays bytes (Ok (Some sizes)) = IsWhole bytes sizes.meta sizes.body
