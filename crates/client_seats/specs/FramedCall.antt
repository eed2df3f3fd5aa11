-- A call with the frame of an attempt of it.
use Rattle.std.specs.Prelude.{ℕ}
use Rattle.sock_message.specs.Asked.{Asked}
use Rattle.message_parts.specs.FramesByParts.{ParcelData}

pub record FramedData : Type 0 where
  pub call : Asked
  pub id : ℕ
  pub attempt : ℕ
  pub frame : ParcelData
