-- What the reader of a link has still to do, and what it has in hand.
use Rattle.std.specs.Prelude.{ℕ, Bool, List}
use Rattle.brpc_model.specs.Frame.{Frame}
use Rattle.sock_message.specs.Asked.{Asked}
use Rattle.seat_programs.specs.Programs.{Program}
use Rattle.reader_points.specs.declared.point.ReadPoint.{ReadPoint}
use Rattle.reader_points.specs.ReaderPoints.{Context, point_program}

-- a reader: where it stands, the bytes behind the last frame that was cut, the responses kept, the response in hand, whether that is a
-- fresh one, which isn't kept, and the call in hand
pub record ReaderData : Type 0 where
  pub point : ReadPoint
  pub held : List ℕ
  pub kept : List Frame
  pub frame : Frame
  pub fresh : Bool
  pub asked : Asked

-- what stands round its point, over these calls
abbrev pub around : List ℕ → ReaderData → Context
around calls r = record { calls = calls; held = r.held; kept = r.kept; frame = r.frame; fresh = r.fresh; asked = r.asked }

abbrev pub reader_program : List ℕ → ReaderData → Program
reader_program calls r = point_program (around calls r) r.point
