-- How large the body of a frame is, and which frames come.
use Rattle.std.specs.Prelude.{◌≡◌, ℕ, ◌+◌, ◌≤◌, List, length}
use Rattle.brpc_model.specs.Frame.{Frame, Begins, judged, body_limit}
use Rattle.brpc_model.specs.Spelling.{meta_bytes}
use Rattle.brpc_model.specs.Reply.{answered_by}
use Rattle.rpc_server.specs.ServiceAnswers.{meant}
use Rattle.rpc_server.specs.declared.service.Answer.{Answer}

-- the body in which it is written
abbrev pub frame_size : Frame → ℕ
frame_size f = length (meta_bytes f.meta) + length f.payload + length f.attachment

-- some bytes begin with this frame
abbrev pub IsBegun : Frame → Type 0
IsBegun f = (bytes : List ℕ) × (body : ℕ) × (judged bytes ≡ Begins f body)

-- the frame of this answer, to the request with this id, is no larger than one may be
abbrev pub IsFit : ℕ → Answer → Type 0
IsFit id answer = frame_size (answered_by id (meant answer)) ≤ body_limit
