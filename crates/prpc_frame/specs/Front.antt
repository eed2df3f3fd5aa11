-- The frame at the front of some bytes, where it lies.
use Rattle.std.specs.Prelude.{◌≡◌, ℕ, ◌+◌, ◌≤◌, List, ◌++◌, length, drop}
use Rattle.rpc_meta.specs.brpc_model.specs.Frame as model
use Rattle.rpc_meta.specs.brpc_model.specs.Frame.{Begins, judged}
use Rattle.rpc_meta.specs.brpc_model.specs.FrameStream.{with_frame, stream_from}
use Rattle.prpc_frame.specs.HeldByCutter.{Held, held_count}
use Rattle.rpc_meta.specs.ViewedMeta.{viewed}
use Rattle.prpc_frame.specs.declared.front.FrontFrame.{FrontFrame}

-- a frame: the meaning of its meta, and the bytes of its payload and its attachment
abbrev pub front_of : FrontFrame → model.Frame
front_of f = record { meta = viewed f.meta; payload = f.payload.now; attachment = f.attachment.now }

-- the bytes begin with this frame, which has so many of them
pub record IsInFront (bytes : List ℕ) (f : FrontFrame) : Type 0 where
  pub body : ℕ
  pub means : judged bytes ≡ Begins (front_of f) body
  pub size : f.size ≡ 12 + body
  pub there : f.size ≤ length bytes

-- a cutter that has answered no fault holds bytes that begin with this frame
pub record LiesInFront (h : Held) (f : FrontFrame) : Type 0 where
  pub is : IsInFront h.bytes f
  pub held : f.size ≤ held_count h

-- however the stream goes on, it is this frame and the stream behind its bytes
abbrev pub LeadsOn : List ℕ → FrontFrame → Type 0
LeadsOn bytes f = (at : ℕ) (more : List ℕ) → stream_from at (bytes ++ more) ≡ with_frame (front_of f) (stream_from (at + f.size) (drop f.size bytes ++ more))
