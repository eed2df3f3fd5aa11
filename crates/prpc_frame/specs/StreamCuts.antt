-- Frames that are cut off the front of a stream, however it goes on behind them.
use Rattle.std.specs.Prelude.{◌≡◌, ℕ, ◌+◌, List, ◌++◌, length}
use Rattle.rpc_meta.specs.brpc_model.specs.Frame.{Frame}
use Rattle.rpc_meta.specs.brpc_model.specs.FrameStream.{Stream, stream_from}

-- a stream with more frames before it
abbrev pub behind : List Frame → Stream → Stream
behind frames s = record { frames = frames ++ s.frames; ending = s.ending }

-- some frames were cut off the front of the bytes, however they go on
pub record Cut (old : List ℕ) (frames : List Frame) (new : List ℕ) : Type 0 where
  -- so many bytes of them
  pub size : ℕ
  pub sized : length old ≡ size + length new
  pub leads : (at : ℕ) (more : List ℕ) → stream_from at (old ++ more) ≡ behind frames (stream_from (at + size) (new ++ more))
